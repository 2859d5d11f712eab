use Rattle.run_laws.proofs.lemmas.lock_words.Slots as slots
use Rattle.run_laws.proofs.lock_words.laws.slots_lock.Goals as goal

pub returns : goal.returns
returns c =
    record {
      nop = λ k q' q a here i s r y c. slots.nop_lock k q' q a here i s r c;
      load_null = λ k q' q a here i s r y c. slots.load_null_lock k q' q a here i s r c;
      load_int32 = λ k q' q a here i s r y c. slots.load_int32_lock k q' q a here i s r c;
      load_int64 = λ k q' q a here i s r y c. slots.load_int64_lock k q' q a here i s r c;
      duplicate = λ k q' q a here i s r y c. slots.duplicate_lock k q' q a here i s r c;
      pop = λ k q' q a here i s r y c. slots.pop_lock k q' q a here i s r c;
      load_arg = λ k q' q a here i s r y c. slots.load_arg_lock k q' q a here i s r c;
      load_local = λ k q' q a here i s r y c. slots.load_local_lock k q' q a here i s r c;
      address_arg = λ k q' q a here i s r y c. slots.address_arg_lock k q' q a here i s r c;
      address_local = λ k q' q a here i s r y c. slots.address_local_lock k q' q a here i s r c;
      store_arg = λ k q' q a here i s r y c. slots.store_arg_lock k q' q a here i s r c;
      store_local = λ k q' q a here i s r y c. slots.store_local_lock k q' q a here i s r c;
    }
