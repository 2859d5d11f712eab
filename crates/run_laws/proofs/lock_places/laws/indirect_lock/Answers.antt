use Rattle.std.specs.Cmp.{first_so}
use Rattle.run_laws.proofs.lemmas.lock_places.Places as places
use Rattle.run_laws.proofs.lemmas.lock_places.Puts as puts
use Rattle.run_laws.proofs.lemmas.lock_places.Indirect as indirect
use Rattle.run_laws.proofs.lock_places.laws.indirect_lock.Goals as goal

pub returns : goal.returns
returns c =
    record {
      read = λ k q' q a s c p h. places.place_moved k q' q a s c p h;
      written = λ k q' q a s c p h v. puts.with_place_moved k q' q a s c p h v;
      indirect = λ k q' q a here i s r y c. indirect.indirect_lock k q' q a here i s c (record { method = r.method; code = r.code; targs = r.targs; margs = r.margs }) (first_so _ _ r.instruction);
    }
