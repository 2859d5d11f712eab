use Rattle.run_laws.proofs.lemmas.lock_throwing.Searching as searching
use Rattle.run_laws.proofs.lemmas.lock_throwing.Forms as forms
use Rattle.run_laws.proofs.lock_throwing.laws.throws_lock.Goals as goal

pub returns : goal.returns
returns c =
    record {
      throws = λ k q' q a x s c. searching.throw_lock k q' q a x s c;
      raises = λ k q' q a n h s c. searching.raise_lock k q' q a n h s c;
      throw_form = λ k q' q a here i s r y c. forms.throw_form_lock k q' q a here i s c;
      leave = λ k q' q a here i s r y c. forms.leave_lock k q' q a here i s c;
      end_finally = λ k q' q a here i s r y c. forms.end_finally_lock k q' q a here i s c;
    }
