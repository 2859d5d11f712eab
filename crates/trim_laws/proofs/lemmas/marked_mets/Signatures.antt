-- The types of a signature that is written over the types of the world: they stay where those of its tokens do.
use Rattle.std.proofs.Common.{◌≡◌, ℕ, zero, suc, Bool, List, [], ◌∷◌, ◌++◌, map, refl, sym, ap, subst, ◌∙◌}
use Rattle.std.specs.Prelude.{⊤}
use Rattle.std.specs.List.{Contains, flat_map}
use Rattle.std.proofs.lemmas.List.Elements.{Contains-append_left, Contains-append_right}
use Rattle.il_base.specs.declared.ids.TypeId.{TypeId}
use Rattle.il_base.specs.declared.sig.Sig.{Sig, fold-Sig, fold-roll-Sig, ind-Sig, roll-Sig}
use Rattle.il_base.specs.declared.sig.Sig.TheFolds.{map-Sig}
use Rattle.il_base.specs.declared.sig.Sig.TheOpen.{Sig-F}
use Rattle.il_base.specs.declared.sig.Sig.TheVariants as sig
use Rattle.il_base.specs.declared.sig.MethodSig.{MethodSig}
use Rattle.il_base.specs.declared.world_model.known.Known.{Known}
use Rattle.il_base.specs.declared.world_model.known.Known.TheVariants.{Good}
use Rattle.il_base.specs.declared.world_model.expr.TypeExpr.{TypeExpr}
use Rattle.il_base.specs.declared.world_model.expr.TypeExpr.TheOpen.{TypeExpr-F}
use Rattle.il_base.specs.declared.world_model.expr.TypeExpr.TheVariants as expr
use Rattle.il_base.specs.declared.world_model.record.AsmRec.{AsmRec}
use Rattle.il_base.specs.world_model.Worlds.{Names, known_map, all_known, named_in, definition_named, modifier_named, sig_layer, sig_expr}
use Rattle.rules.specs.declared.link_rules.member_type.MethodType.{MethodType}
use Rattle.rules.specs.link_rules.Signatures.{names_at, method_type_of, method_type}
use Rattle.rules.specs.link_rules.Members.{arguments_of}
use Rattle.base_laws.proofs.lemmas.known_laws.Lists.{first_in, later_in, from_map}
use Rattle.rules.specs.mark_rules.Naming as naming
use Rattle.rules.specs.merge_rules.Numbers.{Kept}
use Rattle.rules.specs.merge_rules.Keys.{class_number, modifier_number, world_layer, world_sig, world_sigs, world_method_sig}
use Rattle.rules.specs.merge_rules.Refs.{numbers_layer, numbers_in, type_of_number, types_of_sig, types_of_sigs, types_of_method_sig}
use Rattle.merge_laws.proofs.lemmas.merged_owners.Every.{Every, all_none, all_one, all_more, all_join, all_flat}
use Rattle.merge_laws.proofs.lemmas.merged_signatures.Reading.{good_map, good_then}
use Rattle.trim_laws.proofs.lemmas.marked_mets.Stays.{Stays, StayAll, Stay}
use Rattle.trim_laws.proofs.lemmas.marked_mets.Tokens.{NumberStays, TokenStays, types_are, class_stays, modifier_stays, modified_stays, definition_stays, good_token, named_good}

numbers_are : (x : Sig-F Sig) (s : Sig) → roll-Sig x ≡ s → numbers_in s ≡ numbers_layer (map-Sig Sig (List ℕ) numbers_in x)
unfolding numbers_in
numbers_are x s e = ap (fold-Sig (List ℕ) numbers_layer) (sym e) ∙ fold-roll-Sig (List ℕ) numbers_layer x

pub of_layer : (P : ℕ → Type 0) (x : Sig-F Sig) (s : Sig) → roll-Sig x ≡ s → Every P (numbers_layer (map-Sig Sig (List ℕ) numbers_in x)) → Every P (numbers_in s)
of_layer P x s e h = subst (Every P) (sym (numbers_are x s e)) h

module _ (recs : List AsmRec) (kept : Kept) where
  -- ---- types of numbers

  abbrev pub NumbersStay : List ℕ → Type 0
  NumbersStay ns = Every (NumberStays recs kept) ns

  number_types : (n : ℕ) → NumberStays recs kept n → StayAll recs kept (type_of_number n)
  number_types zero h = all_none (Stays recs kept)
  number_types (suc t) h = all_one (Stays recs kept) (record { 0 = t }) (h (record { 0 = t }) refl)

  pub sig_types : (s : Sig) → NumbersStay (numbers_in s) → StayAll recs kept (types_of_sig s)
  sig_types s h = all_flat (Stays recs kept) type_of_number (numbers_in s) (λ n c. number_types n (h.each n c))

  module _ (a : ℕ) (rec : AsmRec) where
    abbrev world : Sig → Sig
    world = world_sig recs a rec

    -- a claim on signatures that gives what is needed of tokens, and is so of each part
    pub record Opens (P : Sig → Type 0) : Type 0 where
      pub named : (value : Bool) (token : ℕ) → P (sig.Named value token) → TokenStays recs kept a rec token
      pub generic : (value : Bool) (token : ℕ) (ss : List Sig) → P (sig.Inst value token ss) → TokenStays recs kept a rec token × Every P ss
      pub array : (s : Sig) → P (sig.Array s) → P s
      pub by_ref : (s : Sig) → P (sig.ByRef s) → P s
      pub modified : (required : Bool) (token : ℕ) (s : Sig) → P (sig.Mod required token s) → NumberStays recs kept (modifier_number recs a rec token) × P s
      pub pinned : (s : Sig) → P (sig.Pinned s) → P s

    module _ (P : Sig → Type 0) (opens : Opens P) where
      abbrev IsFine : Sig → Type 0
      IsFine s = P s → NumbersStay (numbers_in (world s))

      abbrev Part : Type 0
      Part = (s : Sig) × IsFine s

      abbrev plain : List Part → List Sig
      plain xs = map (λ x. x.0) xs

      args_fine : (xs : List Part) → ((s : Sig) → Contains (plain xs) s → P s) → NumbersStay (flat_map (λ ns. ns) (map numbers_in (map world (plain xs))))
      args_fine [] h = all_none (NumberStays recs kept)
      args_fine (x ∷ xs) h =
          all_join (NumberStays recs kept) (numbers_in (world x.0)) (flat_map (λ ns. ns) (map numbers_in (map world (plain xs)))) (x.1 (h x.0 (first_in x.0 (plain xs))))
          (args_fine xs (λ s c. h s (later_in x.0 (plain xs) s c)))

      abbrev Layer : Sig-F Part → Type 0
      Layer y = P (roll-Sig (map-Sig Part Sig (λ x. x.0) y)) → NumbersStay (numbers_in (world_layer recs a rec (map-Sig Sig Sig world (map-Sig Part Sig (λ x. x.0) y))))

      from : (x : Sig-F Sig) (s : Sig) → roll-Sig x ≡ s → P (roll-Sig x) → P s
      from x s e h = subst P e h

      layer_fine : (y : Sig-F Part) → Layer y
      layer_fine (Sig-F.Prim n) h = of_layer (NumberStays recs kept) (Sig-F.Prim n) (sig.Prim n) (sig.rolls-Prim n) (all_none (NumberStays recs kept))
      layer_fine (Sig-F.Named v token) h =
          let k : ℕ = class_number recs a rec token in
          let t = opens.named v token (from (Sig-F.Named v token) (sig.Named v token) (sig.rolls-Named v token) h) in
          of_layer (NumberStays recs kept) (Sig-F.Named v k) (sig.Named v k) (sig.rolls-Named v k) (all_one (NumberStays recs kept) k (class_stays recs kept a rec token t))
      layer_fine (Sig-F.Array x) h =
          of_layer (NumberStays recs kept) (Sig-F.Array (world x.0)) (sig.Array (world x.0)) (sig.rolls-Array (world x.0)) (x.1 (opens.array x.0 (from (Sig-F.Array x.0) (sig.Array x.0) (sig.rolls-Array x.0) h)))
      layer_fine (Sig-F.ByRef x) h =
          of_layer (NumberStays recs kept) (Sig-F.ByRef (world x.0)) (sig.ByRef (world x.0)) (sig.rolls-ByRef (world x.0)) (x.1 (opens.by_ref x.0 (from (Sig-F.ByRef x.0) (sig.ByRef x.0) (sig.rolls-ByRef x.0) h)))
      layer_fine (Sig-F.Inst v token xs) h =
          let k : ℕ = class_number recs a rec token in
          let ss : List Sig = map world (plain xs) in
          let t = opens.generic v token (plain xs) (from (Sig-F.Inst v token (plain xs)) (sig.Inst v token (plain xs)) (sig.rolls-Inst v token (plain xs)) h) in
          of_layer (NumberStays recs kept) (Sig-F.Inst v k ss) (sig.Inst v k ss) (sig.rolls-Inst v k ss)
          (all_more (NumberStays recs kept) k (flat_map (λ ns. ns) (map numbers_in ss)) (class_stays recs kept a rec token t.0) (args_fine xs t.1.each))
      layer_fine (Sig-F.Var n) h = of_layer (NumberStays recs kept) (Sig-F.Var n) (sig.Var n) (sig.rolls-Var n) (all_none (NumberStays recs kept))
      layer_fine (Sig-F.MVar n) h = of_layer (NumberStays recs kept) (Sig-F.MVar n) (sig.MVar n) (sig.rolls-MVar n) (all_none (NumberStays recs kept))
      layer_fine (Sig-F.Mod required token x) h =
          let k : ℕ = modifier_number recs a rec token in
          let t = opens.modified required token x.0 (from (Sig-F.Mod required token x.0) (sig.Mod required token x.0) (sig.rolls-Mod required token x.0) h) in
          of_layer (NumberStays recs kept) (Sig-F.Mod required k (world x.0)) (sig.Mod required k (world x.0)) (sig.rolls-Mod required k (world x.0))
          (all_more (NumberStays recs kept) k (numbers_in (world x.0)) t.0 (x.1 t.1))
      layer_fine (Sig-F.Pinned x) h =
          of_layer (NumberStays recs kept) (Sig-F.Pinned (world x.0)) (sig.Pinned (world x.0)) (sig.rolls-Pinned (world x.0)) (x.1 (opens.pinned x.0 (from (Sig-F.Pinned x.0) (sig.Pinned x.0) (sig.rolls-Pinned x.0) h)))

      rolled : (y : Sig-F Part) → IsFine (roll-Sig (map-Sig Part Sig (λ x. x.0) y))
      unfolding world_sig
      rolled y h = subst (λ (s : Sig). NumbersStay (numbers_in s)) (sym (fold-roll-Sig Sig (world_layer recs a rec) (map-Sig Part Sig (λ x. x.0) y))) (layer_fine y h)

      world_numbers : (s : Sig) → IsFine s
      world_numbers = ind-Sig IsFine (λ x y is. subst (λ z. IsFine (roll-Sig z)) is (rolled y))

      pub world_stays : (s : Sig) → P s → StayAll recs kept (types_of_sig (world_sig recs a rec s))
      world_stays s h = sig_types (world s) (world_numbers s h)

    -- ---- signatures that name types that stay

    pub record Reads (s : Sig) : Type 0 where
      pub of : TypeExpr
      pub is : sig_expr (names_at recs a rec) s ≡ Good of
      pub stays : Stay recs kept of

    abbrev n : Names
    n = names_at recs a rec

    layer_is : (x : Sig-F Sig) (s : Sig) → roll-Sig x ≡ s → sig_expr n s ≡ sig_layer n (map-Sig Sig (Known TypeExpr) (sig_expr n) x)
    unfolding sig_expr
    layer_is x s e = ap (sig_expr n) (sym e) ∙ fold-roll-Sig (Known TypeExpr) (sig_layer n) x

    array_types : (x : TypeExpr) → naming.types_in (expr.Array x) ≡ naming.types_in x
    array_types x = types_are (TypeExpr-F.Array x) (expr.Array x) (expr.rolls-Array x)

    by_ref_types : (x : TypeExpr) → naming.types_in (expr.ByRef x) ≡ naming.types_in x
    by_ref_types x = types_are (TypeExpr-F.ByRef x) (expr.ByRef x) (expr.rolls-ByRef x)

    mod_types : (required : Bool) (by : TypeId) (x : TypeExpr) → naming.types_in (expr.Mod required by x) ≡ by ∷ naming.types_in x
    mod_types required by x = types_are (TypeExpr-F.Mod required by x) (expr.Mod required by x) (expr.rolls-Mod required by x)

    inst_types : (t : TypeId) (es : List TypeExpr) → naming.types_in (expr.Inst t es) ≡ t ∷ flat_map (λ ts. ts) (map naming.types_in es)
    inst_types t es = types_are (TypeExpr-F.Inst t es) (expr.Inst t es) (expr.rolls-Inst t es)

    tail_stays : (t : TypeId) (ts : List TypeId) → StayAll recs kept (t ∷ ts) → StayAll recs kept ts
    tail_stays t ts h = record { each = λ u c. h.each u (later_in t ts u c) }

    front_stays : (ts us : List TypeId) → StayAll recs kept (ts ++ us) → StayAll recs kept ts
    front_stays ts us h = record { each = λ u c. h.each u (Contains-append_left ts us u c) }

    back_stays : (ts us : List TypeId) → StayAll recs kept (ts ++ us) → StayAll recs kept us
    back_stays ts us h = record { each = λ u c. h.each u (Contains-append_right ts us u c) }

    reads_args : (ss : List Sig) (es : List TypeExpr) → all_known (map (sig_expr n) ss) ≡ Good es → StayAll recs kept (flat_map (λ ts. ts) (map naming.types_in es)) → Every Reads ss
    reads_args [] es h stay = all_none Reads
    reads_args (s ∷ ss) es h stay =
        let g = good_then (λ (y : TypeExpr). known_map (λ ys. y ∷ ys) (all_known (map (sig_expr n) ss))) (sig_expr n s) es h in
        let i = good_map (λ (ys : List TypeExpr). g.from ∷ ys) (all_known (map (sig_expr n) ss)) es g.gives in
        let both : StayAll recs kept (naming.types_in g.from ++ flat_map (λ ts. ts) (map naming.types_in i.from)) = subst (λ (ys : List TypeExpr). StayAll recs kept (flat_map (λ ts. ts) (map naming.types_in ys))) (sym i.gives) stay in
        all_more Reads s ss (record { of = g.from; is = g.is; stays = front_stays (naming.types_in g.from) (flat_map (λ ts. ts) (map naming.types_in i.from)) both })
        (reads_args ss i.from i.is (back_stays (naming.types_in g.from) (flat_map (λ ts. ts) (map naming.types_in i.from)) both))

    reads_open : Opens Reads
    reads_open = record {
      named = λ v token r.
          let f : named_in n.types token ≡ Good r.of = sym (layer_is (Sig-F.Named v token) (sig.Named v token) (sig.rolls-Named v token)) ∙ r.is in
          good_token recs kept a rec token r.of (named_good recs kept a rec token r.of f) r.stays;
      generic = λ v token ss r.
          let g = good_then (λ (d : TypeId). known_map (λ (ys : List TypeExpr). expr.Inst d ys) (all_known (map (sig_expr n) ss))) (definition_named n token) r.of
          (sym (layer_is (Sig-F.Inst v token ss) (sig.Inst v token ss) (sig.rolls-Inst v token ss)) ∙ r.is) in
          let i = good_map (λ (ys : List TypeExpr). expr.Inst g.from ys) (all_known (map (sig_expr n) ss)) r.of g.gives in
          let rest : List TypeId = flat_map (λ ts. ts) (map naming.types_in i.from) in
          let all : StayAll recs kept (g.from ∷ rest) = subst (StayAll recs kept) (ap naming.types_in (sym i.gives) ∙ inst_types g.from i.from) r.stays in
          (definition_stays recs kept a rec token g.from g.is (all.each g.from (first_in g.from rest)), reads_args ss i.from i.is (tail_stays g.from rest all));
      array = λ s r.
          let g = good_map (λ (x : TypeExpr). expr.Array x) (sig_expr n s) r.of (sym (layer_is (Sig-F.Array s) (sig.Array s) (sig.rolls-Array s)) ∙ r.is) in
          record { of = g.from; is = g.is; stays = subst (StayAll recs kept) (ap naming.types_in (sym g.gives) ∙ array_types g.from) r.stays };
      by_ref = λ s r.
          let g = good_map (λ (x : TypeExpr). expr.ByRef x) (sig_expr n s) r.of (sym (layer_is (Sig-F.ByRef s) (sig.ByRef s) (sig.rolls-ByRef s)) ∙ r.is) in
          record { of = g.from; is = g.is; stays = subst (StayAll recs kept) (ap naming.types_in (sym g.gives) ∙ by_ref_types g.from) r.stays };
      modified = λ q token s r.
          let g = good_then (λ (d : TypeId). known_map (λ (x : TypeExpr). expr.Mod q d x) (sig_expr n s)) (modifier_named n token) r.of (sym (layer_is (Sig-F.Mod q token s) (sig.Mod q token s) (sig.rolls-Mod q token s)) ∙ r.is) in
          let i = good_map (λ (x : TypeExpr). expr.Mod q g.from x) (sig_expr n s) r.of g.gives in
          let rest : List TypeId = naming.types_in i.from in
          let all : StayAll recs kept (g.from ∷ rest) = subst (StayAll recs kept) (ap naming.types_in (sym i.gives) ∙ mod_types q g.from i.from) r.stays in
          (modified_stays recs kept a rec token g.from g.is (all.each g.from (first_in g.from rest)), record { of = i.from; is = i.is; stays = tail_stays g.from rest all });
      pinned = λ s r. record { of = r.of; is = sym (layer_is (Sig-F.Pinned s) (sig.Pinned s) (sig.rolls-Pinned s)) ∙ r.is; stays = r.stays };
    }

    pub sig_stays : (s : Sig) (e : TypeExpr) → sig_expr (names_at recs a rec) s ≡ Good e → Stay recs kept e → StayAll recs kept (types_of_sig (world_sig recs a rec s))
    sig_stays s e is h = world_stays Reads reads_open s (record { of = e; is = is; stays = h })

    -- ---- lists of signatures, and those of methods

    pub sigs_by : (P : Sig → Type 0) → ((s : Sig) → P s → StayAll recs kept (types_of_sig (world_sig recs a rec s))) → (ss : List Sig) → Every P ss → StayAll recs kept (types_of_sigs (world_sigs recs a rec ss))
    sigs_by P f ss h =
        all_flat (Stays recs kept) types_of_sig (world_sigs recs a rec ss)
        (λ x c. let m = from_map (world_sig recs a rec) ss x c in subst (λ (y : Sig). StayAll recs kept (types_of_sig y)) m.2 (f m.0 (h.each m.0 m.1)))

    reads_of : (ss : List Sig) (es : List TypeExpr) → all_known (map (sig_expr n) ss) ≡ Good es → Every (Stay recs kept) es → Every Reads ss
    reads_of ss es h stay = reads_args ss es h (flat_types es stay)
      where
        flat_types : (ys : List TypeExpr) → Every (Stay recs kept) ys → StayAll recs kept (flat_map (λ ts. ts) (map naming.types_in ys))
        flat_types ys g =
            all_flat (Stays recs kept) (λ ts. ts) (map naming.types_in ys) (λ ts c. let m = from_map naming.types_in ys ts c in subst (StayAll recs kept) m.2 (g.each m.0 m.1))

    pub sigs_stay : (ss : List Sig) (es : List TypeExpr) → arguments_of (names_at recs a rec) ss ≡ Good es → Every (Stay recs kept) es → StayAll recs kept (types_of_sigs (world_sigs recs a rec ss))
    sigs_stay ss es h stay = sigs_by Reads (world_stays Reads reads_open) ss (reads_of ss es h stay)

    pub method_stays : (s : MethodSig) (t : MethodType) → method_type (names_at recs a rec) s ≡ Good t → Every (Stay recs kept) (t.ret ∷ t.params) → StayAll recs kept (types_of_method_sig (world_method_sig recs a rec s))
    unfolding method_type
    method_stays s t h stay =
        let g = good_then (λ (ret : TypeExpr). known_map (λ params. method_type_of s ret params) (all_known (map (sig_expr n) s.params))) (sig_expr n s.ret) t h in
        let i = good_map (λ (params : List TypeExpr). method_type_of s g.from params) (all_known (map (sig_expr n) s.params)) t g.gives in
        let all : Every (Stay recs kept) (g.from ∷ i.from) = subst (λ (u : MethodType). Every (Stay recs kept) (u.ret ∷ u.params)) (sym i.gives) stay in
        sigs_by Reads (world_stays Reads reads_open) (s.ret ∷ s.params)
        (all_more Reads s.ret s.params (record { of = g.from; is = g.is; stays = all.each g.from (first_in g.from i.from) })
        (reads_of s.params i.from i.is (record { each = λ e c. all.each e (later_in g.from i.from e c) })))

    -- ---- signatures of an assembly all of whose tokens name types that stay, as those of the core library do

    module _ (tokens : (token : ℕ) → TokenStays recs kept a rec token) where
      abbrev Any : Sig → Type 0
      Any s = ⊤

      any_open : Opens Any
      any_open = record {
        named = λ v token h. tokens token;
        generic = λ v token ss h. (tokens token, record { each = λ s c. tt });
        array = λ s h. tt;
        by_ref = λ s h. tt;
        modified = λ q token s h. (modifier_stays recs kept a rec token (class_stays recs kept a rec token (tokens token)), tt);
        pinned = λ s h. tt;
      }

      pub any_stays : (s : Sig) → StayAll recs kept (types_of_sig (world_sig recs a rec s))
      any_stays s = world_stays Any any_open s tt

      pub any_method_stays : (s : MethodSig) → StayAll recs kept (types_of_method_sig (world_method_sig recs a rec s))
      any_method_stays s = sigs_by Any (λ x h. any_stays x) (s.ret ∷ s.params) (record { each = λ x c. tt })
