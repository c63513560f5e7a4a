use Rattle.std.proofs.Common.{◌∙◌, ap, arith, refl, subst}
use Rattle.std.specs.Prelude.{is_some}
use Rattle.byte_formats.proofs.Values.{err_is}
use Rattle.journal_core.specs.Words.{end_of}
use Rattle.mirror_core.specs.declared.error.MirrorError.TheVariants.{Append}
use Rattle.issuance_log.specs.Refusals.{append_refusal}
use Rattle.mirror_core.proofs.mirror.Mirror.append_record.Goals as goal
use Rattle.mirror_core.proofs.Answering.{appended_none, refused_keeps}
use Rattle.mirror_core.proofs.Leaving.{appends_err, appends_ok}
use Rattle.mirror_core.proofs.Made.{makes_of, within_of}
use Rattle.mirror_core.specs.Kept.{kept_places}
use Rattle.mirror_core.specs.Places.{ArePlaced}
use Rattle.mirror_core.specs.Refusals.{KeepsToMirrorJournal}
use Rattle.mirror_core.specs.Words.{mirror_broken, mirror_end, mirror_view}
use Rattle.mirror_core.specs.declared.machine.MirrorRest.{MirrorRest}

-- the durable records make the machine
pub append_to-requires : goal.append_to-requires
append_to-requires g c =
    let mirror = c.args.self.now in
    record {
      some = c.requires.some;
      few = c.requires.few;
      made = record {
        durable = λ b contents.
            let is = mirror.durable b contents in
            record {
              durable = is.durable;
              holds = record {
                made = makes_of mirror.machine (end_of mirror.journal) b is;
                keeps = is.kept;
              };
            };
        within = within_of mirror;
      };
      allowed = c.requires.allowed;
      capacity = c.requires.capacity;
    }

pub returns-in_err-append_to-clause-refusal : goal.returns-in_err-append_to-clause-refusal
returns-in_err-append_to-clause-refusal g c =
    let mirror = c.args.self.now in
    let why = c.in_err-append_to.field-0.0 in
    subst (KeepsToMirrorJournal (append_refusal (mirror_broken mirror) (mirror_end mirror)
    c.args.body.now))
    (err_is c.from_residual.result (Append why) c.from_residual.ensures.1) (
      why,
      (
        refl,
        refused_keeps (mirror_broken mirror) (mirror_end mirror) c.args.body.now why
            c.in_err-append_to.ensures.broken c.in_err-append_to.ensures.full,
      ),
    )

pub returns-clause-refusal : goal.returns-clause-refusal
returns-clause-refusal g c =
    let mirror = c.args.self.now in
    appended_none (mirror_broken mirror) (mirror_end mirror) c.args.body.now _
    c.in_ok-append_to.ensures.broken
    c.in_ok-append_to.ensures.full

-- what the append did
pub returns-in_err-append_to-clause-appends : goal.returns-in_err-append_to-clause-appends
returns-in_err-append_to-clause-appends g c = λ seen next taken.
    let mirror = c.args.self.now in
    let did = c.in_err-append_to.ensures in
    appends_err mirror _ (ap (λ (rest : MirrorRest _). is_some (g.T.Disk.contents rest.disk))
    did.rest)
    c.args.body.now seen next c.from_residual.result c.in_err-append_to.field-0.0
    c.from_residual.ensures.1 (did.appends (seen (mirror_view mirror)) taken.shows) did.records
    (ap (λ it. it.numbers) did.machine)

pub returns-clause-appends : goal.returns-clause-appends
returns-clause-appends g c = λ seen next taken.
    let mirror = c.args.self.now in
    let did = c.in_ok-append_to.ensures in
    appends_ok mirror _ (ap (λ (rest : MirrorRest _). is_some (g.T.Disk.contents rest.disk))
    did.rest)
    c.args.body.now seen next c.args.answer (did.appends (seen (mirror_view mirror)) taken.shows)
    taken

pub returns-in_err-append_to-clause-tiles : goal.returns-in_err-append_to-clause-tiles
returns-in_err-append_to-clause-tiles g c =
    ap (λ (rest : MirrorRest _). rest.disk) c.append_to.ensures.rest

pub returns-clause-tiles : goal.returns-clause-tiles
returns-clause-tiles g c = ap (λ (rest : MirrorRest _). rest.disk) c.append_to.ensures.rest

pub invariant_of-self : goal.invariant_of-self
invariant_of-self g c =
    let mirror = c.args.self.now in
    let journal = c.append_to.new.journal in
    let it = c.append_to.new.machine in
    let made = c.append_to.ensures.made in
    let within = made.within in
    let begun = journal.begun in
    let long = within.long in
    let adopted =
    ap (λ (rest : MirrorRest _). is_some rest.refusal) c.append_to.ensures.rest ∙ mirror.adopted in
    record {
      counted = within.counted;
      adopted = adopted;
      stored = within.stored adopted;
      placed = subst (ArePlaced (kept_places it.kept) it.numbers.size) (omega arith) within.placed;
      long = omega arith;
      durable = λ b contents.
          let is = made.durable b contents in
          record { durable = is.durable; kept = is.holds.keeps };
    }
