use Rattle.std.proofs.Common.{◌≡◌, ◌-◌}
use Rattle.issuance_log.specs.Words.{view_of}
use Rattle.authority_core.specs.Certificates.{cert_refusal}
use Rattle.authority_core.specs.Several.{refusal_from}
use Rattle.authority_core.proofs.writing.several.first_refused.Given as goal

-- the indexes before this one have no refusal
abbrev pub invariant-loop-index : goal.invariant-loop-index
invariant-loop-index g l =
    refusal_from (λ index. cert_refusal (view_of l.log) index l.start l.end l.signatures)
    (l.last - l.index) l.index
    ≡ refusal_from (λ index. cert_refusal (view_of l.log) index l.start l.end l.signatures)
    (l.last - l.first) l.first
