-- Why a consistency proof does not pass, in words.
use Rattle.std.specs.Prelude.{codes}
use Rattle.byte_formats.specs.Types.{Text}
use Rattle.tree_proofs.specs.declared.error.ConsistError.{ConsistError}
use Rattle.tree_proofs.specs.declared.error.ConsistError.TheVariants as consist_error

-- Why a consistency proof of a subtree does not pass.
abbrev pub consist_fault_text : ConsistError → Text
consist_fault_text consist_error.BadSubtree = codes "BadSubtree"
consist_fault_text consist_error.Beyond = codes "Beyond"
consist_fault_text consist_error.WrongLength = codes "WrongLength"
consist_fault_text consist_error.WrongNode = codes "WrongNode"
consist_fault_text consist_error.WrongRoot = codes "WrongRoot"
