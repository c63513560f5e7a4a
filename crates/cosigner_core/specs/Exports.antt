-- What others may know of a cosigner: its name, that of its log, its public key, and the records of
-- its journal after the first one, which holds the secret.
use Rattle.std.specs.Prelude.{◌++◌, List, drop}
use Rattle.std.specs.List.{flat_map}
use Rattle.std.specs.Int.{w8, w16, w32}
use Rattle.byte_formats.specs.Types.{Text}
use Rattle.hss_keys.specs.Keys.{public_of}
use Rattle.tls_wire.specs.Encoding.{vector}
use Rattle.cosigner_core.specs.Folds.{CosignerState}

-- the ids of the cosigner and of its log, each after its length of one byte, and the public key
-- after its length of two bytes
abbrev pub prefix_text : Text → Text → Text → Text
prefix_text id log public = vector w8 id ++ (vector w8 log ++ vector w16 public)

-- records, each after its length of four bytes
abbrev pub records_text : List Text → Text
records_text bodies = flat_map (vector w32) bodies

-- The export of a cosigner with these records.
abbrev pub export_text : CosignerState → List Text → Text
export_text s list =
    prefix_text s.id s.log (public_of s.key.key) ++ records_text (drop 1 list)
