use Rattle.std.proofs.Common.{◌≡◌, Ok, refl, subst}
use Rattle.std.specs.Int.{w64}
use Rattle.byte_formats.specs.Offsets.{At, at}
use Rattle.tls_wire.specs.Reading.{number_at, bytes_at, hashes_at}
use Rattle.mtc_relying.specs.Member.{member_file}
use Rattle.mtc_relying.proofs.member.file.read_member.Goals as goal

pub returns : goal.returns
unfolding member_file
returns c =
    let index : number_at w64 (at c.args.bytes.now 0) ≡ Ok (c.in_ok-index.index, c.u64.new.self)
    = subst (λ (p : At). number_at w64 p ≡ Ok (c.in_ok-index.index, c.u64.new.self))
    c.new-cursor.ensures c.in_ok-index.ensures in
    let start : number_at w64 c.u64.new.self ≡ Ok (c.in_ok-start.start, c.u64-2.new.self)
    = c.in_ok-start.ensures in
    let end : number_at w64 c.u64-2.new.self ≡ Ok (c.in_ok-end.end, c.u64-3.new.self)
    = c.in_ok-end.ensures in
    let hash : bytes_at 32 c.u64-3.new.self ≡ Ok (c.in_ok-hash.hash.now, c.bytes.new.self)
    = c.in_ok-hash.ensures in
    let path : hashes_at c.bytes.new.self ≡ Ok (c.in_ok-path.path.now, c.hashes.new.self)
    = c.in_ok-path.ensures in
    let entry : c.rest.result.now ≡ c.hashes.new.self.rest = c.rest.ensures in
    rw (index, start, end, hash, path, entry) refl
