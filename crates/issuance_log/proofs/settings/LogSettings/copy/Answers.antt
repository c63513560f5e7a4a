use Rattle.std.proofs.Common.{◌≡◌, subst}
use Rattle.byte_formats.specs.Types.{Text}
use Rattle.issuance_log.specs.Settings.{Settings}
use Rattle.issuance_log.proofs.Ids.{id_again}
use Rattle.issuance_log.proofs.settings.LogSettings.copy.Goals as goal

pub returns : goal.returns
returns c =
    let most = c.self.inside.max_active in
    let limit = c.self.inside.limit in
    let with_id : Text → Settings = λ id. record { id = id; max_active = most; limit = limit } in
    subst (λ (id : Text). with_id id ≡ c.args.self.now) (id_again c.self.inside.id
    c.as_bytes.result.now c.in-Ok.id c.as_bytes.ensures.value c.as_bytes.ensures.anchor
    c.in-Ok.ensures) c.self.view_is
