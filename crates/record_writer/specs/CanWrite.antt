-- The records that can be written: each signature and body that has a reading has a spelling.
use Rattle.std.specs.Prelude.{All, Option, Some, None}
use Rattle.il_base.specs.declared.body.Body.{Body}
use Rattle.il_base.specs.body_grammar.BodySpelling.{HasSpelling}
use Rattle.il_base.specs.declared.world_model.known.Known.{Known}
use Rattle.il_base.specs.declared.world_model.known.Known.TheVariants.{Good, Bad}
use Rattle.il_base.specs.declared.world_model.record.AsmRec.{AsmRec}
use Rattle.record_writer.specs.row_writer.CanWrite.{CanWriteRows}

abbrev pub HasBody : Option (Known Body) → Type 0
HasBody None = Unit {0}
HasBody (Some (Good b)) = HasSpelling b
HasBody (Some (Bad why)) = Unit {0}

pub record CanWrite (rec : AsmRec) : Type 0 where
  pub rows : CanWriteRows rec
  pub bodies : All (λ m. HasBody m.body) rec.method_def
