use Rattle.std.proofs.Common.{ap, ◌∙◌}
use Rattle.std.proofs.lemmas.Result.{err_from_is_err_and}
use Rattle.landmarks.specs.Texts.{list_text}
use Rattle.issuance_log.specs.Staying.{stays_alone}
use Rattle.mtc_command.specs.Answers.{said}
use Rattle.mtc_command.specs.declared.answer.Said.TheVariants.{Done}
use Rattle.mtc_authority.proofs.marks.list_landmarks.Goals as goal

pub returns-in_err-landmarks : goal.returns-in_err-landmarks
returns-in_err-landmarks g c =
    let refused = err_from_is_err_and c.from_residual.result c.from_residual.ensures.1 in
    rw (refused.1, refused.2) (record {
      reply = tt;
      stays = stays_alone c.args.log.now (g.met.D.Disk.only_now _) (g.met.D.Disk.only_now _);
    })

pub returns-in_err-write_list : goal.returns-in_err-write_list
returns-in_err-write_list g c =
    let refused = err_from_is_err_and c.from_residual-in_err-write_list.result
    c.from_residual-in_err-write_list.ensures.1 in
    rw (refused.1, refused.2) (record {
      reply = tt;
      stays = stays_alone c.args.log.now (g.met.D.Disk.only_now _) (g.met.D.Disk.only_now _);
    })

pub returns : goal.returns
returns g c = record {
  reply = (
    ap (λ t. said Done t) (c.in_ok-write_list.ensures ∙ ap list_text c.in_ok-landmarks.ensures),
    λ e. absurd cc,
  );
  stays = stays_alone c.args.log.now (g.met.D.Disk.only_now _) (g.met.D.Disk.only_now _);
}
