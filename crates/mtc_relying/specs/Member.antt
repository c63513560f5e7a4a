-- The command `member`: what its file holds, and what is judged of it.
use Rattle.std.specs.Prelude.{ℕ, List, Bool, Result, Ok, bytes_eq}
use Rattle.std.specs.Int.{w64}
use Rattle.byte_formats.specs.Offsets.{at}
use Rattle.byte_formats.specs.Types.{Hash, HashFunction, Text}
use Rattle.byte_formats.specs.Readings.{◌>>=◌, lifted}
use Rattle.tls_wire.specs.declared.cursor.HashesError.{HashesError}
use Rattle.tls_wire.specs.declared.cursor.HashesError.TheVariants.{Short}
use Rattle.tls_wire.specs.Reading.{number_at, bytes_at, hashes_at}
use Rattle.tree_core.specs.declared.error.EvalError.{EvalError}
use Rattle.tree_core.specs.Evaluation.{evaluation}
use Rattle.tree_core.specs.Tree.{leaf_hash}
use Rattle.mtc_relying.specs.declared.member.file.MemberFile.{MemberFile}

-- What a member file holds: an entry's index, a subtree and its hash, the inclusion path, and the
-- entry.
pub record Member : Type 0 where
  pub index : ℕ
  pub start : ℕ
  pub end : ℕ
  pub hash : Hash
  pub path : List Hash
  pub entry : Text

-- What a file says that was cut into its parts.
abbrev pub member_view : MemberFile → Member
member_view m = record {
  index = m.index;
  start = m.start;
  end = m.end;
  hash = m.hash.now;
  path = m.path.now;
  entry = m.entry.now;
}

-- The grammar: index, start and end in eight bytes each, a hash, a vector of hashes, and the entry
-- to the end.
unfoldable pub member_file : Text → Result Member HashesError
member_file bytes = do
  index ← lifted Short (number_at w64 (at bytes 0))
  start ← lifted Short (number_at w64 index.1)
  end ← lifted Short (number_at w64 start.1)
  hash ← lifted Short (bytes_at 32 end.1)
  path ← hashes_at hash.1
  Ok (record {
    index = index.0;
    start = start.0;
    end = end.0;
    hash = hash.0;
    path = path.0;
    entry = path.1.rest;
  })

-- The judgement: whether the evaluated hash is the file's.
unfoldable pub member_judgement : HashFunction → Member → Result Bool EvalError
member_judgement h m = do
  hash ← evaluation h (leaf_hash h m.entry) m.index m.start m.end m.path
  Ok (bytes_eq hash m.hash)
