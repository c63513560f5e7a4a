-- Parts of the code's values as contracts see them: slices as their bytes.
use Rattle.std.specs.Prelude.{Option, Some, None, option_map}
use Rattle.cert_time.specs.Times.{validity_element}
use Rattle.cert_time.specs.Periods.{period}
use Rattle.log_entry.specs.Entries.{TbsParts}
use Rattle.log_entry.specs.declared.entry.Entry.{Entry}
use Rattle.log_entry.specs.declared.entry.Entry.TheVariants.{Null, Tbs}
use Rattle.log_entry.specs.declared.entry.TbsEntry.{TbsEntry}
use Rattle.log_entry.specs.declared.entry.EntryParts.{EntryParts}

-- An entry of type 1.
abbrev pub tbs_parts : TbsEntry → TbsParts
tbs_parts t = record {
  issuer = t.issuer.now;
  validity = period t.validity;
  validity_der = t.validity_der.now;
  subject = t.subject.now;
  algorithm = option_map (λ bytes. bytes.now) t.algorithm;
  key_hash = t.key_hash.now;
  extensions = t.extensions.now;
}

-- The null entry is none.
abbrev pub entry_parts : Entry → Option TbsParts
entry_parts Null = None
entry_parts (Tbs t) = Some (tbs_parts t)

-- What is written: the parts that the caller gives, with the validity as its element.
abbrev pub given_entry : EntryParts → TbsParts
given_entry p = record {
  issuer = p.issuer.now;
  validity = period p.validity;
  validity_der = validity_element (period p.validity);
  subject = p.subject.now;
  algorithm = option_map (λ bytes. bytes.now) p.algorithm;
  key_hash = p.key_hash.now;
  extensions = p.extensions.now;
}
