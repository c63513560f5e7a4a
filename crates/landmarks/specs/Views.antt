-- Parts of the code's values as contracts see them: slices as their bytes.
use Rattle.landmarks.specs.declared.reading.Head.{Head}
use Rattle.landmarks.specs.Texts.{ListHead}

-- The head of a list of landmarks.
abbrev pub list_head : Head → ListHead
list_head h = record { last = h.last; active = h.active; rest = h.rest.now }
