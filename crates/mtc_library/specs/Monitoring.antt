-- The words of a monitor's contracts.
pub use Rattle.monitor_core.specs.Monitor.{monitor_of}
pub use Rattle.monitor_core.specs.States.{MonitorState, empty_state}
