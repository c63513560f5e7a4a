use Rattle.std.proofs.Common.{◌≡◌, drop}
use Rattle.cert_time.specs.Forms.{fits_form}
use Rattle.cert_time.proofs.digits.fits.Given as goal

abbrev pub invariant-loop-place : goal.invariant-loop-place
invariant-loop-place l = fits_form (drop l.place l.form) (drop l.place l.text)
    ≡ fits_form l.form l.text
