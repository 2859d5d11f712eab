-- The second and the third fact of a rule are marked items.
use Rattle.std.proofs.Common.{◌≡◌, List, refl}
use Rattle.std.specs.List.{Contains}
use Rattle.il_base.specs.declared.ids.TypeId.{TypeId}
use Rattle.il_base.specs.declared.ids.MethodId.{MethodId}
use Rattle.il_base.specs.declared.ids.Item.{Item}
use Rattle.il_base.specs.declared.ids.Item.TheVariants as item
use Rattle.il_base.specs.declared.world_model.record.AsmRec.{AsmRec}
use Rattle.rules.specs.mark_rules.Facts.{Fact}
use Rattle.rules.specs.mark_rules.Facts.Fact.{marked, instantiated, reflected, shown}
use Rattle.rules.specs.mark_rules.Marking.{two, three}
use Rattle.base_laws.proofs.lemmas.known_laws.Lists.{none_in}

abbrev pub IsMarked : Fact → Type 0
IsMarked b = (i : Item) × (b ≡ marked i)

module _ (recs : List AsmRec) where
  type_two : (t : TypeId) (b f : Fact) → Contains (two recs (marked (item.Typ t)) b) f → IsMarked b
  unfolding two
  type_two t (marked i) f h = (i, refl)
  type_two t (instantiated x) f h = absurd (none_in f h)
  type_two t (reflected x) f h = absurd (none_in f h)
  type_two t (shown x) f h = absurd (none_in f h)

  type_method : (t : TypeId) (m : MethodId) (c f : Fact) → Contains (three recs (marked (item.Typ t)) (marked (item.Method m)) c) f → IsMarked c
  unfolding three
  type_method t m (marked i) f h = (i, refl)
  type_method t m (instantiated x) f h = absurd (none_in f h)
  type_method t m (reflected x) f h = absurd (none_in f h)
  type_method t m (shown x) f h = absurd (none_in f h)

  type_three : (t : TypeId) (b c f : Fact) → Contains (three recs (marked (item.Typ t)) b c) f → IsMarked b × IsMarked c
  unfolding three
  type_three t (marked (item.Method m)) c f h = ((item.Method m, refl), type_method t m c f h)
  type_three t (marked (item.Asm x)) c f h = absurd (none_in f h)
  type_three t (marked (item.Typ x)) c f h = absurd (none_in f h)
  type_three t (marked (item.Field x)) c f h = absurd (none_in f h)
  type_three t (marked (item.Prop x)) c f h = absurd (none_in f h)
  type_three t (marked (item.Event x)) c f h = absurd (none_in f h)
  type_three t (marked (item.Impl x)) c f h = absurd (none_in f h)
  type_three t (instantiated x) c f h = absurd (none_in f h)
  type_three t (reflected x) c f h = absurd (none_in f h)
  type_three t (shown x) c f h = absurd (none_in f h)

  made_two : (t : TypeId) (b f : Fact) → Contains (two recs (instantiated t) b) f → IsMarked b
  unfolding two
  made_two t (marked i) f h = (i, refl)
  made_two t (instantiated x) f h = absurd (none_in f h)
  made_two t (reflected x) f h = absurd (none_in f h)
  made_two t (shown x) f h = absurd (none_in f h)

  made_method : (t : TypeId) (m : MethodId) (c f : Fact) → Contains (three recs (instantiated t) (marked (item.Method m)) c) f → IsMarked c
  unfolding three
  made_method t m (marked i) f h = (i, refl)
  made_method t m (instantiated x) f h = absurd (none_in f h)
  made_method t m (reflected x) f h = absurd (none_in f h)
  made_method t m (shown x) f h = absurd (none_in f h)

  made_three : (t : TypeId) (b c f : Fact) → Contains (three recs (instantiated t) b c) f → IsMarked b × IsMarked c
  unfolding three
  made_three t (marked (item.Method m)) c f h = ((item.Method m, refl), made_method t m c f h)
  made_three t (marked (item.Asm x)) c f h = absurd (none_in f h)
  made_three t (marked (item.Typ x)) c f h = absurd (none_in f h)
  made_three t (marked (item.Field x)) c f h = absurd (none_in f h)
  made_three t (marked (item.Prop x)) c f h = absurd (none_in f h)
  made_three t (marked (item.Event x)) c f h = absurd (none_in f h)
  made_three t (marked (item.Impl x)) c f h = absurd (none_in f h)
  made_three t (instantiated x) c f h = absurd (none_in f h)
  made_three t (reflected x) c f h = absurd (none_in f h)
  made_three t (shown x) c f h = absurd (none_in f h)

  pub two_marked : (a b f : Fact) → Contains (two recs a b) f → IsMarked b
  unfolding two
  two_marked (marked (item.Typ t)) b f h = type_two t b f h
  two_marked (instantiated t) b f h = made_two t b f h
  two_marked (marked (item.Asm x)) b f h = absurd (none_in f h)
  two_marked (marked (item.Method x)) b f h = absurd (none_in f h)
  two_marked (marked (item.Field x)) b f h = absurd (none_in f h)
  two_marked (marked (item.Prop x)) b f h = absurd (none_in f h)
  two_marked (marked (item.Event x)) b f h = absurd (none_in f h)
  two_marked (marked (item.Impl x)) b f h = absurd (none_in f h)
  two_marked (reflected x) b f h = absurd (none_in f h)
  two_marked (shown x) b f h = absurd (none_in f h)

  pub three_marked : (a b c f : Fact) → Contains (three recs a b c) f → IsMarked b × IsMarked c
  unfolding three
  three_marked (marked (item.Typ t)) b c f h = type_three t b c f h
  three_marked (instantiated t) b c f h = made_three t b c f h
  three_marked (marked (item.Asm x)) b c f h = absurd (none_in f h)
  three_marked (marked (item.Method x)) b c f h = absurd (none_in f h)
  three_marked (marked (item.Field x)) b c f h = absurd (none_in f h)
  three_marked (marked (item.Prop x)) b c f h = absurd (none_in f h)
  three_marked (marked (item.Event x)) b c f h = absurd (none_in f h)
  three_marked (marked (item.Impl x)) b c f h = absurd (none_in f h)
  three_marked (reflected x) b c f h = absurd (none_in f h)
  three_marked (shown x) b c f h = absurd (none_in f h)
