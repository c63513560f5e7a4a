-- The keys of a map beside the members that it represents, and texts with and without a tree.
use Rattle.std.proofs.Common.{◌≡◌, ℕ, Bool, true, false, ◌&&◌, cond, List, [], ◌∷◌, Option, Some}
use Rattle.std.proofs.Common.{None, String, Global, string_bytes, refl, ap}
use Rattle.std.specs.List.{list_all}
use Rattle.std.specs.Map.{keys_of}
use Rattle.std.specs.Str.{is_utf8, IsUtf8}
use Rattle.std.proofs.lemmas.Str.{is_utf8-from_IsUtf8, IsUtf8-from_is_utf8}
use Rattle.toml.specs.Parse.{parse_document}
use Rattle.toml.specs.Data.{Members}
use Rattle.toml.specs.View.{members_view}
use Rattle.toml.specs.declared.value.Value.{Value}
use Rattle.toml_fields.specs.Tree.{tree_of, has_name, has_only}

pub has_only-view : (names : List (List ℕ)) (es : List (String Global × Value))
    → list_all (λ k. has_name names (string_bytes k)) (keys_of es)
    ≡ has_only names (members_view es)
has_only-view names [] = refl
has_only-view names (e ∷ es) = ap (λ (b : Bool). has_name names (string_bytes e.0) && b)
    (has_only-view names es)

pub tree_of-some : (text : List ℕ) (tree : Members) → IsUtf8 text → parse_document text ≡ Some tree
    → tree_of text ≡ Some tree
unfolding tree_of
tree_of-some text tree utf8 parsed = rw (is_utf8-from_IsUtf8 text utf8) parsed

tree_without : (text : List ℕ) (b : Bool) → is_utf8 text ≡ b
    → (IsUtf8 text → parse_document text ≡ None) → cond b (parse_document text) None ≡ None
tree_without text true e h = h (IsUtf8-from_is_utf8 text e)
tree_without text false e h = refl

pub tree_of-none : (text : List ℕ) → (IsUtf8 text → parse_document text ≡ None)
    → tree_of text ≡ None
unfolding tree_of
tree_of-none text h = tree_without text (is_utf8 text) refl h
