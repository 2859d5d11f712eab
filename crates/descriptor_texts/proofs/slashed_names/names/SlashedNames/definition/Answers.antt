use Rattle.std.proofs.Common.{sym, ◌∙◌}
use Rattle.descriptor_texts.proofs.lemmas.slashed_names.Naming.{one_definition}
use Rattle.descriptor_texts.proofs.slashed_names.names.SlashedNames.definition.Goals as goal

pub returns-in-Ok-Some : goal.returns-in-Ok-Some
returns-in-Ok-Some c =
    c.name_at.ensures ∙ one_definition c.args.all.now c.args.self.now c.args.id c.in-Ok-Some.at c.requires (sym c.in-Ok-Some.ensures ∙ c.in-Ok-Some.field-0-is)
