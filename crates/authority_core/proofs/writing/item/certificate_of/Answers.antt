use Rattle.std.proofs.Common.{Ok, ap, sym, ◌∙◌}
use Rattle.log_entry.specs.Views.{entry_parts, tbs_parts}
use Rattle.log_entry.specs.declared.entry.Entry.{Entry}
use Rattle.authority_core.proofs.Certificates.{no_null, no_fault, parts_few, certified_so}
use Rattle.authority_core.proofs.writing.item.certificate_of.Goals as goal

pub write-requires : goal.write-requires
write-requires g c =
    let made = c.in_ok-parts-in-Ok-Tbs in
    record {
      short = parts_few c.args.index c.args.entry.now c.args.key.now c.args.proof
          c.in-Ok-Tbs.field-0 c.in-Ok-Tbs.tbs made.parts c.in-Ok-Tbs.field-0-is
          c.in-Ok-Tbs.ensures.found.0 made.ensures c.requires.short_entry c.requires.short_key
          c.requires.short_proof;
    }

pub unreachable-requires : goal.unreachable-requires
unreachable-requires g c =
    no_null g.H.TreeHash.hash c.args.entry.now c.args.key.now
    (sym c.key_matches.ensures.exact ∙ c.if-not-key_matches.false)
    (c.in-Ok-Null.ensures.exact ∙ ap (λ (e : Entry). Ok (entry_parts e)) c.in-Ok-Null.field-0-is)

pub unreachable-requires-in-Err : goal.unreachable-requires-in-Err
unreachable-requires-in-Err g c =
    no_fault g.H.TreeHash.hash c.args.entry.now c.args.key.now c.in-Err.field-0
    (sym c.key_matches.ensures.exact ∙ c.if-not-key_matches.false)
    c.in-Err.ensures.exact

pub returns : goal.returns
returns g c =
    let made = c.in_ok-parts-in-Ok-Tbs in
    certified_so c.write.result g.H.TreeHash.hash c.args.index c.args.entry.now c.args.key.now
    c.args.proof (tbs_parts c.in-Ok-Tbs.tbs) made.parts (λ i. (c.type_inv.entry i).fits)
    (λ i. (c.type_inv.key i).fits) (sym c.key_matches.ensures.exact ∙ c.if-not-key_matches.false)
    (c.in-Ok-Tbs.ensures.exact ∙ ap (λ (e : Entry). Ok (entry_parts e)) c.in-Ok-Tbs.field-0-is)
    c.requires.some c.ranges.index.fits made.ensures
    (parts_few c.args.index c.args.entry.now c.args.key.now c.args.proof c.in-Ok-Tbs.field-0
    c.in-Ok-Tbs.tbs made.parts c.in-Ok-Tbs.field-0-is c.in-Ok-Tbs.ensures.found.0 made.ensures
    c.requires.short_entry c.requires.short_key c.requires.short_proof)
    c.write.ensures.exact
