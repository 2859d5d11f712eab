use Rattle.run_laws.proofs.lemmas.lock_numbers.Forms as forms
use Rattle.run_laws.proofs.lock_numbers.laws.numbers_lock.Goals as goal

pub returns : goal.returns
returns c =
    record {
      branch = λ k q' q a here i s r y c. forms.branch_lock k q' q a here i s c;
      branch_if = λ k q' q a here i s r y c. forms.branch_if_lock k q' q a here i s c;
      switch = λ k q' q a here i s r y c. forms.switch_lock k q' q a here i s c;
      binary = λ k q' q a here i s r y c. forms.binary_lock k q' q a here i s c;
      unary = λ k q' q a here i s r y c. forms.unary_lock k q' q a here i s c;
      convert = λ k q' q a here i s r y c. forms.convert_lock k q' q a here i s c;
    }
