-- A journal and the file of its tiles, which were opened and only read, or weren't opened: what is
-- left of both.
use Rattle.std.proofs.Common.{inl, inr, [], IsSome, subst, sym, ◌∙◌, arith}
use Rattle.byte_formats.specs.Types.{Text}
use Rattle.disk_core.specs.Times.{OnlyReads}
use Rattle.disk_core.specs.declared.disk.Disk.{Ghosts}
use Rattle.disk_core.proofs.Times.{only_read_on}
use Rattle.mtc_room.specs.declared.room.Room.{Ghosts as Rooms}
use Rattle.mtc_command.specs.Answers.{Ending, no_memory, said, tiles_name}
use Rattle.mtc_command.specs.Made.{untouched}
use Rattle.mtc_command.specs.Steps.{Outcome, answers}
use Rattle.mtc_command.specs.declared.answer.Said.TheVariants.{Done}
use Rattle.mtc_command.proofs.Beside.{ModelsAll, failed_only_read, longer_other, only_read_tiled}
use Rattle.mtc_command.proofs.Beside.{put_back, put_failed}
use Rattle.mtc_command.proofs.Made.{OnlyNow, kept_of, left_opened, still}
use Rattle.mtc_command.proofs.Valid.{contents_opened}
use Rattle.mtc_tiled.specs.Openings.{DevicesWereClosed, DevicesWereNotOpened, DevicesWereOpened}
use Rattle.mtc_tiled.specs.Openings.{HeaderWasRefused, TilesWereNotOpened}
use Rattle.mtc_mirror_steps.specs.ReadSecond.{HasOnlyRead}
use Rattle.mtc_mirror_steps.proofs.Around.{OneDevice, closed_read}

module _ {R S D : Type 0} (rooms : Rooms R S D) (g : Ghosts D) (all : ModelsAll rooms g)
    (one : OneDevice rooms) (name : Text) (old new : R) where
  abbrev beside : Text
  beside = tiles_name name

  abbrev nothing : Text → Text → Outcome
  nothing bytes held = answers (said Done [])

  -- both devices were opened, only read and closed
  pub devices_read : (both : R) (disk disk' tiles tiles' : D)
      → DevicesWereOpened rooms g name old both disk tiles
      → DevicesWereClosed rooms g name both new disk' tiles'
      → OnlyReads g disk disk' → OnlyReads g tiles tiles' → HasOnlyRead rooms g name old new
  devices_read both disk disk' tiles tiles' opened closed read read_tiles =
      let header = opened.header in
      let first = header.opened_disk in
      let only = only_read_on g first disk disk' header.only_reads read in
      record {
        closes = record {
          opened = omega (
            arith,
            header.opened.opened,
            opened.beside.opened,
            closed.beside.opened,
            closed.journal.opened,
          );
          later = omega (
            arith,
            header.opened.fine,
            opened.beside.fine,
            closed.beside.count,
            closed.journal.count,
          );
          is_modelled = λ t. closed.journal.is_modelled
              (closed.beside.is_modelled (opened.beside.is_modelled (header.opened.is_modelled t)));
          others = λ other is. record {
            bytes = (closed.journal.others other is.1.0).bytes
                ∙ ((closed.beside.others other is.0).bytes
                ∙ ((opened.beside.others other is.0).bytes ∙ (header.opened.stay other).bytes));
            disk = (closed.journal.others other is.1.0).disk
                ∙ ((closed.beside.others other is.0).disk
                ∙ ((opened.beside.others other is.0).disk ∙ (header.opened.stay other).disk));
          };
        };
        journal_stays = λ t.
            let put = put_back rooms g name [] nothing old opened.mid both closed.mid new first
            disk' tiles tiles' no_memory header.opened opened.beside closed.beside closed.journal t
            in
            record {
              leaves = left_opened g no_memory untouched (rooms.device old name)
                  (rooms.device new name) first disk' (header.opened.device t) put
                  (kept_of g first disk' untouched only);
              contents = contents_opened g (rooms.device old name) (rooms.device new name) first
                  disk' (header.opened.device t) put only.contents;
            };
        only_read = only_read_tiled rooms g name old opened.mid both closed.mid new first disk'
            tiles tiles' header.opened opened.beside closed.beside closed.journal all read_tiles;
        spares = λ t not. absurd (opened.is_journal t not);
      }

  -- the file has no header of a journal, or reading that failed
  header_read : (ending : Ending) → OnlyNow g → HeaderWasRefused rooms g name old new ending
      → HasOnlyRead rooms g name old new
  header_read ending only_now is =
      let tiles = is.closed.others beside (λ same. longer_other rooms.leads_to name (sym same)) in
      record {
        closes = record {
          opened = omega (arith, is.opened.opened, is.closed.opened);
          later = omega (arith, is.opened.fine, is.closed.count);
          is_modelled = λ t. is.closed.is_modelled (is.opened.is_modelled t);
          others = λ other apart. record {
            bytes = (is.closed.others other apart.1.0).bytes ∙ (is.opened.stay other).bytes;
            disk = (is.closed.others other apart.1.0).disk ∙ (is.opened.stay other).disk;
          };
        };
        journal_stays = λ t.
            let put = is.closed.device (is.opened.is_modelled t)
            (subst IsSome (sym (is.opened.stay name).bytes) (is.opened.bytes t).there) in
            record {
              leaves = left_opened g no_memory untouched (rooms.device old name)
                  (rooms.device new name) is.opened_disk is.disk (is.opened.device t) put
                  (kept_of g is.opened_disk is.disk untouched is.only_reads);
              contents = contents_opened g (rooms.device old name) (rooms.device new name)
                  is.opened_disk is.disk (is.opened.device t) put is.only_reads.contents;
            };
        only_read = λ t. still g (rooms.device old beside) (rooms.device new beside) untouched
            only_now (tiles.disk ∙ (is.opened.stay beside).disk);
        spares = λ t not. record {
          bytes = tiles.bytes ∙ (is.opened.stay beside).bytes;
          disk = tiles.disk ∙ (is.opened.stay beside).disk;
        };
      }

  -- the file system failed at the tiles
  failed_read : (ending : Ending) → OnlyNow g → TilesWereNotOpened rooms g name old new ending
      → HasOnlyRead rooms g name old new
  failed_read ending only_now is =
      let header = is.header in
      let first = header.opened_disk in
      record {
        closes = record {
          opened = omega (arith, header.opened.opened, is.failed.opened, is.closed.opened);
          later = omega (arith, header.opened.fine, is.failed.later, is.closed.count);
          is_modelled = λ t. is.closed.is_modelled
              (is.failed.is_modelled (header.opened.is_modelled t));
          others = λ other apart. record {
            bytes = (is.closed.others other apart.1.0).bytes
                ∙ ((is.failed.others other apart.0).bytes ∙ (header.opened.stay other).bytes);
            disk = (is.closed.others other apart.1.0).disk
                ∙ ((is.failed.others other apart.0).disk ∙ (header.opened.stay other).disk);
          };
        };
        journal_stays = λ t.
            let put = put_failed rooms g name old is.mid is.both new first is.disk header.opened
            is.failed is.closed header.only_reads t in
            record {
              leaves = left_opened g no_memory untouched (rooms.device old name)
                  (rooms.device new name) first is.disk (header.opened.device t) put
                  (kept_of g first is.disk untouched header.only_reads);
              contents = contents_opened g (rooms.device old name) (rooms.device new name) first
                  is.disk (header.opened.device t) put header.only_reads.contents;
            };
        only_read = failed_only_read rooms g name old is.mid is.both new first is.disk header.opened
            is.failed is.closed header.only_reads only_now;
        spares = λ t not. absurd (is.is_journal t not);
      }

  -- the devices weren't opened
  pub devices_not_read : (ending : Ending) → OnlyNow g
      → DevicesWereNotOpened rooms g name old new ending → HasOnlyRead rooms g name old new
  devices_not_read ending only_now is = elim is [
    | inl journal ↦ closed_read rooms g all one name old new journal.closes only_now
    | inr (inl header) ↦ header_read ending only_now header
    | inr (inr tiles) ↦ failed_read ending only_now tiles
  ]
