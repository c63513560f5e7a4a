-- Why a path has no value, in words.
use Rattle.std.specs.Prelude.{codes}
use Rattle.byte_formats.specs.Types.{Text}
use Rattle.tree_core.specs.declared.error.EvalError.{EvalError}
use Rattle.tree_core.specs.declared.error.EvalError.TheVariants as eval_error

-- Why a path has no value at an index.
abbrev pub shape_text : EvalError → Text
shape_text eval_error.BadSubtree = codes "BadSubtree"
shape_text eval_error.Outside = codes "Outside"
shape_text eval_error.WrongLength = codes "WrongLength"
