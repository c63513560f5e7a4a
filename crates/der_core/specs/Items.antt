-- Elements as contracts see them.
use Rattle.std.specs.Prelude.{ℕ, ◌+◌, ◌-◌, length}
use Rattle.byte_formats.specs.Types.{Text}
use Rattle.byte_formats.specs.Offsets.{At}
use Rattle.der_core.specs.declared.element.Element.{Element}

-- An element without where it lies in memory: its tag, its offset in the input, all of its bytes,
-- its contents.
pub record Item : Type 0 where
  pub tag : ℕ
  pub place : ℕ
  pub whole : Text
  pub contents : Text

abbrev pub item : Element → Item
item e = record { tag = e.tag; place = e.place; whole = e.whole.now; contents = e.contents.now }

-- The position of the contents.
abbrev pub inside : Item → At
inside e = record { place = e.place + (length e.whole - length e.contents); rest = e.contents }
