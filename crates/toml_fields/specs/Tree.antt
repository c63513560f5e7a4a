-- The tree of a TOML file, and the keys of its tables.
use Rattle.std.specs.Prelude.{◌&&◌, Bool, true, List, Option, None, bytes_eq, if◌then◌else◌}
use Rattle.std.specs.List.{list_any}
use Rattle.std.specs.Str.{is_utf8}
use Rattle.byte_formats.specs.Types.{Text}
use Rattle.toml.specs.Data.{Members, no_members, member}
use Rattle.toml.specs.Parse.{parse_document}

-- The tree of a text that is UTF-8 and TOML.
unfoldable pub tree_of : Text → Option Members
tree_of text = if is_utf8 text then parse_document text else None

-- The key is one of the names.
abbrev pub has_name : List Text → Text → Bool
has_name names key = list_any (λ name. bytes_eq name key) names

-- Each key is one of the names.
abbrev pub has_only : List Text → Members → Bool
has_only names no_members = true
has_only names (member key d ms) = has_name names key && has_only names ms
