pub mod AddsNone
