-- With the texts of the kept methods, tokens and texts are those of the record that a merge leaves.
use Rattle.std.specs.Prelude.{◌≡◌, ℕ, List, map}
use Rattle.std.specs.List.{flat_map}
use Rattle.il_base.specs.declared.world_model.record.AsmRec.{AsmRec}
use Rattle.rules.specs.file_layout.Interning.{each_once}
use Rattle.rules.specs.merge_rules.Numbers.{kept_methods}
use Rattle.rules.specs.merge_rules.Refs.{Output}
use Rattle.rules.specs.merge_rules.Moved.{texts_of_method, kept_texts, moved_text}
use Rattle.rules.specs.merge_rules.Restricted.{new_text}
use Rattle.merged_tables.specs.merged_texts.Texts.{numbered, text_by}

pub record AreTextsOf (o : Output) (texts : List (List ℕ)) : Type 0 where
  pub user : map (numbered texts) texts ≡ map (new_text o) (kept_texts o)
  pub tokens : (rec : AsmRec) (token : ℕ) → text_by texts rec token ≡ moved_text o rec token

abbrev pub TextsTell : Type 0
TextsTell = (o : Output) (texts : List (List ℕ)) → texts ≡ each_once (flat_map (texts_of_method o.recs) (kept_methods o.recs o.kept)) → AreTextsOf o texts
