-- What goes out of `export`, over a cosigner whose records the model knows, or doesn't know.
use Rattle.std.proofs.Common.{◌≡◌, ◌<◌, inl, inr, ℕ, List, ◌++◌, drop, length, IfSome, Ok, Err}
use Rattle.std.proofs.Common.{refl, sym, subst, ap, arith, length-append}
use Rattle.std.proofs.lemmas.Option.{IfSome_then}
use Rattle.std.specs.Io.KnownBytes.{Appends}
use Rattle.std.specs.Int.{w8, w16, to_be_bytes}
use Rattle.byte_formats.specs.Types.{Text}
use Rattle.byte_formats.proofs.Values.{each_some}
use Rattle.tls_wire.specs.Encoding.{vector}
use Rattle.disk_core.specs.Times.{OnlyReads}
use Rattle.disk_core.specs.declared.disk.Disk.{Ghosts}
use Rattle.mtc_io.specs.Counts.{Rose}
use Rattle.mtc_io.specs.Streams.{AppendsPrefix}
use Rattle.mtc_io.specs.declared.fault.Failed.{Failed}
use Rattle.mtc_io.specs.declared.sink.Sink.{Ghosts as Sinks}
use Rattle.journal_core.specs.Copies.{AppendsSome, HasCopyCause}
use Rattle.journal_core.specs.declared.error.CopyError.{CopyError}
use Rattle.journal_core.specs.declared.error.CopyError.TheVariants.{Read, Write}
use Rattle.journal_core.specs.Owners.{Owner}
use Rattle.hss_keys.specs.Keys.{public_of}
use Rattle.cosigner_core.specs.Exports.{export_text, prefix_text, records_text}
use Rattle.cosigner_core.specs.Folds.{CosignerState}
use Rattle.mtc_command.specs.Answers.{Ending, replied, room_failed, said, stop_ending}
use Rattle.mtc_command.specs.declared.answer.Said.TheVariants.{Done}
use Rattle.mtc_command.specs.declared.answer.Stop.{Stop}
use Rattle.mtc_lines.specs.Outputs.{Streams, WasStopped}
use Rattle.mtc_lines.proofs.Texts.{GoesInPart, IsTextOf, part_text, whole_text}
use Rattle.mtc_cosigner.specs.CosignerOutcomes.{export_says}
use Rattle.mtc_cosigner.specs.Works.{HasWorkedOnCosigner}

-- an export has the lengths of the ids at least
some_export : (s : CosignerState) (list : List Text) → 0 < length (export_text s list)
some_export s list = omega (
  arith,
  length-append (prefix_text s.id s.log (public_of s.key.key)) (records_text (drop 1 list)),
  length-append (vector w8 s.id) (vector w8 s.log ++ vector w16 (public_of s.key.key)),
  length-append (to_be_bytes w8 (length s.id)) s.id,
)

-- which count rose
pub read_rose : (disk sink read written : ℕ) (why : CopyError) → why ≡ Read
    → HasCopyCause {T = Unit {0}} disk sink read written (Err why) → Rose disk read
read_rose disk sink read written Read is cause = cause.0
read_rose disk sink read written Write is cause = absurd cc

-- and the other didn't
pub read_fine : (disk sink read written : ℕ) (why : CopyError) → why ≡ Read
    → HasCopyCause {T = Unit {0}} disk sink read written (Err why) → written ≡ sink
read_fine disk sink read written Read is cause = cause.1
read_fine disk sink read written Write is cause = absurd cc

pub write_rose : (disk sink read written : ℕ) (why : CopyError) → why ≡ Write
    → HasCopyCause {T = Unit {0}} disk sink read written (Err why) → Rose sink written
write_rose disk sink read written Read is cause = absurd cc
write_rose disk sink read written Write is cause = cause.1

module _ {D O : Type 0} (g : Ghosts D) (outs : Sinks O) (name : Text) (it : Owner D CosignerState)
    (new : D) (only : OnlyReads g it.disk new) (out out' : O)
    (grows : AppendsSome (outs.taken out) (outs.taken out')) where
  abbrev Does : Ending → Type 0
  Does = HasWorkedOnCosigner g name export_says it new

  -- ---- what was done

  does_reply : (text : Text) → IfSome it.records (λ list. text ≡ export_text it.state list)
      → Does (replied (said Done text))
  does_reply text is = record {
    ends = record { plain = λ one. absurd cc; later = only.faults; fault = tt };
    reply = IfSome_then it.records is (λ list same. ap (λ (t : Text). said Done t) same);
    adds = each_some _ it.records (λ list opened. (opened, inr only));
  }

  does_fail : Rose (g.faults it.disk) (g.faults new) → Does (room_failed name)
  does_fail rose = record {
    ends = record { plain = tt; later = only.faults; fault = (rose, inl refl) };
    reply = tt;
    adds = each_some _ it.records (λ list opened. (opened, inr only));
  }

  -- ---- what went out

  pub export_written : IfSome it.records
      (λ list. Appends (outs.taken out) (outs.taken out') (export_text it.state list))
      → (done : Unit {0}) → Streams outs out out' Does (Ok (Ok done))
  export_written is done =
      let whole = whole_text (export_text it.state) _ _ grows it.records is in
      record { text = whole.text; ends = does_reply whole.text whole.is; written = whole.holds }

  module _ (is : IfSome it.records (λ list. AppendsPrefix (outs.taken out) (outs.taken out')
      (export_text it.state list))) where
    part : IsTextOf (export_text it.state) it.records
        (GoesInPart (outs.taken out) (outs.taken out'))
    part = part_text (export_text it.state) _ _ grows it.records
        (IfSome_then it.records is (λ list prefix. (prefix, some_export it.state list)))

    pub export_lost : Rose (outs.faults out) (outs.faults out') → (failed : Failed)
        → Streams outs out out' Does (Ok (Err failed))
    export_lost cause failed = record {
      text = part.text;
      ends = does_reply part.text part.is;
      some = part.holds.1;
      cause = cause;
      prefix = part.holds.0;
    }

    pub export_broken : Rose (g.faults it.disk) (g.faults new)
        → outs.faults out' ≡ outs.faults out → (stop : Stop)
        → stop_ending stop ≡ room_failed name → Streams outs out out' Does (Err stop)
    export_broken rose fine stop is_failure =
        subst (WasStopped outs out out' Does) (sym is_failure) (record {
          ends = does_fail rose;
          fine = fine;
          went = inr (record {
            text = part.text;
            ends = does_reply part.text part.is;
            went = part.holds.0;
          });
        })
