-- What texts of signatures are made of.
use Rattle.std.specs.Prelude.{ℕ, List}
use Rattle.il_base.specs.declared.world_model.expr.TypeExpr.{TypeExpr}
use Rattle.rules.specs.mark_rules.Roots as roots
use Rattle.rules.specs.mark_rules.Roots.{sig_text}
use Rattle.mark_parts.specs.mark_tables.Assemblies.{recs_of, rec_of, IsAssembly}
use Rattle.descriptor_texts.specs.slashed_names.Names.{AreNames}
use Rattle.descriptor_texts.specs.declared.sig_texts.spelling.Owners.{Owners}
use Rattle.descriptor_texts.specs.declared.sig_texts.spelling.Spelling.{Spelling}

-- the owners as the definitions have them
abbrev pub owners_told : Owners → roots.Owners
owners_told o = record { type = o.typ; method = o.method }

pub record IsSpelling (s : Spelling) : Type 0 where
  pub asm : IsAssembly s.asm
  pub names : AreNames (recs_of s.asm) s.names.now

abbrev pub text_of : Spelling → TypeExpr → List ℕ
text_of s e = sig_text (recs_of s.asm) (rec_of s.asm) (owners_told s.owners) e
