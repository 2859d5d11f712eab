use Rattle.machine_words.proofs.lemmas.cil_objects.TextLemmas.{was_there, is_new}
use Rattle.machine_words.proofs.cil_objects.texts.interned.Goals as goal

pub returns-in-Some : goal.returns-in-Some
returns-in-Some c = was_there c.args.units.now c.args.st.now c.in-Some.at c.in-Some.ensures

pub returns-in_ok-made-in-None : goal.returns-in_ok-made-in-None
returns-in_ok-made-in-None c =
    is_new c.args.units.now c.args.st.now c.new_text.new.st c.in_ok-made-in-None.made c.in-None.ensures (λ f. c.in_ok-made-in-None.ensures f)
