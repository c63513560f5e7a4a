-- The words of a relying party's contracts.
pub use Rattle.byte_formats.specs.Types.{Text, Hash, HashFunction}
pub use Rattle.cert_fields.specs.Certificate.{Parts, parts_of}
pub use Rattle.cert_fields.specs.Extensions.{dns_names_in}
pub use Rattle.cert_fields.specs.Views.{parts}
pub use Rattle.mtc_library.specs.Hosts.{is_for}
pub use Rattle.policy_core.specs.Judgement.{judged, judgement}
pub use Rattle.policy_core.specs.Acceptance.{IsAccepted}
