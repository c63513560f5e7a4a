-- The two forms of an entry: one has the hash of the key alone, the other the algorithm of the key
-- before it.
use Rattle.std.specs.Prelude.{ℕ, nat_le, Option, Some, None, if◌then◌else◌}
use Rattle.byte_formats.specs.Types.{Text}
use Rattle.cert_fields.specs.Keys.{key_algorithm}
use Rattle.log_entry.specs.Entries.{TbsParts}
use Rattle.log_entry.specs.declared.entry.Form.{Form}
use Rattle.log_entry.specs.declared.entry.Form.TheVariants.{One, Two}

-- The form of the entry at an index, where entries have form two from this index on, or never.
abbrev pub form_at : Option ℕ → ℕ → Form
form_at None index = One
form_at (Some from) index = if nat_le from index then Two else One

-- What an entry of this form has of a key before its hash.
abbrev pub algorithm_for : Form → Text → Option Text
algorithm_for One spki = None
algorithm_for Two spki = Some (key_algorithm spki)

-- The form of an entry that has this before the hash.
abbrev pub form_with : Option Text → Form
form_with None = One
form_with (Some algorithm) = Two

-- The form of an entry with these parts.
abbrev pub form_of : TbsParts → Form
form_of p = form_with p.algorithm
