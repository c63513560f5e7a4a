use Rattle.std.proofs.Common.{ap, sym, ◌∙◌, arith, string_bytes, vec_items}
use Rattle.tls_wire.specs.Anchors.{arc_at, text_of}
use Rattle.tls_wire.proofs.TextLoops.{first_is_read, arcs_from, next_is_read, arcs_more, arcs_end}
use Rattle.tls_wire.proofs.dotted.text_of_arcs.Goals as goal

pub arc_here-first-requires : goal.arc_here-first-requires
arc_here-first-requires c = rw c.new-input.ensures (first_is_read c.args.bytes.now c.requires)

pub loop-input-init : goal.loop-input-init
loop-input-init c =
    rw (c.in_ok-write.ensures.bytes, c.new-text.ensures.bytes) (arcs_from c.args.bytes.now
    c.arc_here-first.result c.arc_here-first.new.input c.requires
    (ap arc_at (sym c.new-input.ensures) ∙ c.arc_here-first.ensures.exact))

pub arc_here-n-requires : goal.arc_here-n-requires
arc_here-n-requires c = next_is_read (text_of c.args.bytes.now) (string_bytes c.loop-input.text)
    c.loop-input.input (omega arith) c.loop-input.invariant

pub loop-input-preserved : goal.loop-input-preserved
loop-input-preserved c =
    arcs_more (text_of c.args.bytes.now) (string_bytes c.loop-input.text) c.loop-input.input
    c.arc_here-n.result c.arc_here-n.new.input (string_bytes c.write-in-loop-input.new.self)
    (omega arith) c.arc_here-n.ensures.exact c.in_ok-write-2.ensures.bytes c.loop-input.invariant

pub returns : goal.returns
returns c = c.from_vec.ensures ∙ (ap vec_items c.into_bytes.ensures.value
    ∙ arcs_end (text_of c.args.bytes.now) (string_bytes c.loop-input.text) c.loop-input.input
    (omega arith) c.loop-input.invariant)
