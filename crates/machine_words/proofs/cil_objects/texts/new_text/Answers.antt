use Rattle.machine_words.proofs.lemmas.cil_objects.TextLemmas.{none_made, one_made}
use Rattle.std.proofs.Common.{◌∙◌}
use Rattle.machine_words.proofs.cil_objects.texts.new_text.Goals as goal

pub returns-in_default : goal.returns-in_default
returns-in_default c =
    none_made c.args.units.now c.in_ok-copy.copy c.args.st.now c.made_text.new.st c.in_ok-at.field-0 (c.in_ok-copy.ensures ∙ c.as_slice.ensures) c.in_default.is (λ f. c.in_ok-at.ensures f)

pub returns : goal.returns
returns c =
    one_made c.args.units.now c.in_ok-copy.copy c.args.st.now c.made_text.new.st c.in_ok-at.field-0 c.in-Some.at c.push.new.self (c.in_ok-copy.ensures ∙ c.as_slice.ensures) c.in-Some.is
    c.in_ok-push.ensures.ok (λ f. c.in_ok-at.ensures f)
