-- Types under their full names, and the rival of a type among them.
use Rattle.std.proofs.Common.{◌≡◌, ℕ, List, [], ◌∷◌, ◌++◌, map, Bool, true, false, cond, Option, Some, None, refl, sym, ap, ◌∙◌}
use Rattle.std.specs.Prelude.{bytes_eq, find, not, ◌==◌, ◌&&◌, if◌then◌else◌}
use Rattle.std.specs.List.{filter}
use Rattle.std.specs.HashMap.{HashMap, get_by}
use Rattle.std.specs.Map.{update}
use Rattle.std.specs.Borrow.{Bor}
use Rattle.std.proofs.lemmas.Slice.Eq.{bytes_eq-Decides}
use Rattle.std.proofs.lemmas.List.Elements.{filter-append}
use Rattle.std.proofs.lemmas.List.{append-nil}
use Rattle.il_base.specs.declared.world_model.record.AsmRec.{AsmRec}
use Rattle.il_base.specs.world_model.Core.{same_name}
use Rattle.rules.specs.declared.link_rules.row_at.RowAt.{RowAt}
use Rattle.rules.specs.link_rules.Cycles.{listed}
use Rattle.rules.specs.merge_rules.Names.{is_top_level, old_name, is_rival}
use Rattle.merge_plan.specs.Rivals.{named_in, has_full_name, AreNamed}
use Rattle.merge_plan.specs.Contests.{contest, contests_of}

-- ---- a type put at the end of those with its name

module _ {S : Type 0} (old mid new : HashMap (Bor (List ℕ)) (List RowAt) S) (name : List ℕ) where
  abbrev Others : Type 0
  Others = (q : List ℕ) → bytes_eq name q ≡ false → named_in mid q ≡ named_in old q

  -- the look-ups after a change at the name
  abbrev Changes : HashMap (Bor (List ℕ)) (List RowAt) S → HashMap (Bor (List ℕ)) (List RowAt) S → Option (List RowAt) → Type 0
  Changes m n w = (q : List ℕ) → get_by (λ key. bytes_eq q key.now) n ≡ update bytes_eq (λ ds. get_by (λ key. bytes_eq ds key.now) m) name w q

  pub taken_others : Changes old mid None → Others
  taken_others changes q e = rw (changes q, e) refl

  put_at : (rows : List RowAt) (row : RowAt) (q : List ℕ) (b : Bool) → bytes_eq name q ≡ b → rows ≡ named_in old name → Others → Changes mid new (Some (rows ++ row ∷ []))
      → named_in new q ≡ (if b then named_in old q ++ row ∷ [] else named_in old q)
  put_at rows row q true e taken others changes =
      let same : name ≡ q = (bytes_eq-Decides name q).0 e in
      rw (changes q, e) (ap (λ (l : List RowAt). l ++ row ∷ []) (taken ∙ ap (named_in old) same))
  put_at rows row q false e taken others changes = rw (changes q, e) (others q e)

  pub put_rows : (rows : List RowAt) (row : RowAt) → rows ≡ named_in old name → Others → Changes mid new (Some (rows ++ row ∷ []))
      → (q : List ℕ) → named_in new q ≡ (if bytes_eq name q then named_in old q ++ row ∷ [] else named_in old q)
  put_rows rows row taken others changes q = put_at rows row q (bytes_eq name q) refl taken others changes

-- ---- one type more

pushed_if : (b c : Bool) (xs : List RowAt) (at : RowAt) → b ≡ c → (if b then xs ++ at ∷ [] else xs) ≡ xs ++ cond c (at ∷ []) []
pushed_if true true xs at e = refl
pushed_if false false xs at e = sym (append-nil xs)
pushed_if true false xs at e = cc
pushed_if false true xs at e = cc

module _ {S : Type 0} (recs : List AsmRec) (old : HashMap (Bor (List ℕ)) (List RowAt) S) (before : List RowAt) (at : RowAt) where
  pub named_more : (new : HashMap (Bor (List ℕ)) (List RowAt) S) (name : List ℕ) → name ≡ old_name recs at → is_top_level recs at ≡ true
      → ((q : List ℕ) → named_in new q ≡ (if bytes_eq name q then named_in old q ++ at ∷ [] else named_in old q)) → AreNamed recs before old → AreNamed recs (before ++ at ∷ []) new
  named_more new name own top put are q =
      put q
      ∙ pushed_if (bytes_eq name q) (has_full_name recs q at) (named_in old q) at (λ i. sym top i && bytes_eq (own i) q)
      ∙ ap (λ (xs : List RowAt). xs ++ cond (has_full_name recs q at) (at ∷ []) []) (are q)
      ∙ sym (filter-append (has_full_name recs q) before (at ∷ []))

  pub named_same : is_top_level recs at ≡ false → AreNamed recs before old → AreNamed recs (before ++ at ∷ []) old
  named_same top are q =
      are q ∙ sym (append-nil (filter (has_full_name recs q) before))
      ∙ ap (λ (b : Bool). filter (has_full_name recs q) before ++ cond (b && same_name (old_name recs at) q) (at ∷ []) []) (sym top)
      ∙ sym (filter-append (has_full_name recs q) before (at ∷ []))

-- ---- rivals

find_step : (P R : RowAt → Bool) (t s b : Bool) (x : RowAt) (F G : List RowAt) → P x ≡ b → R x ≡ (b && s) → find P F ≡ find R G → find P (cond (t && s) (x ∷ F) F) ≡ find R (cond t (x ∷ G) G)
find_step P R false s b x F G p r h = h
find_step P R true true true x F G p r h = rw (p, r) refl
find_step P R true true false x F G p r h = rw (p, r) h
find_step P R true false true x F G p r h = rw r h
find_step P R true false false x F G p r h = rw r h

rival_is : (recs : List AsmRec) (at : RowAt) (rows : List RowAt)
    → find (λ (x : RowAt). not (x.asm == at.asm)) (filter (has_full_name recs (old_name recs at)) rows) ≡ find (is_rival recs at) (filter (is_top_level recs) rows)
rival_is recs at [] = refl
rival_is recs at (x ∷ xs) =
    find_step (λ (y : RowAt). not (y.asm == at.asm)) (is_rival recs at) (is_top_level recs x) (same_name (old_name recs x) (old_name recs at)) (not (x.asm == at.asm)) x
    (filter (has_full_name recs (old_name recs at)) xs) (filter (is_top_level recs) xs) refl refl (rival_is recs at xs)

pub contested_none : (recs : List AsmRec) (before : List RowAt) (at : RowAt) → is_top_level recs at ≡ false → contests_of recs before at ≡ []
contested_none recs before at top = rw top refl

pub contested_by : {S : Type 0} (recs : List AsmRec) (types : HashMap (Bor (List ℕ)) (List RowAt) S) (before : List RowAt) (at : RowAt) (name : List ℕ) → name ≡ old_name recs at → is_top_level recs at ≡ true
    → AreNamed recs before types → (r : Option RowAt) → r ≡ find (λ (x : RowAt). not (x.asm == at.asm)) (named_in types name) → contests_of recs before at ≡ map (contest at) (listed r)
contested_by recs types before at name own top are r e =
    let found : r ≡ find (is_rival recs at) (filter (is_top_level recs) before) =
    e ∙ ap (λ (n : List ℕ). find (λ (x : RowAt). not (x.asm == at.asm)) (named_in types n)) own ∙ ap (find (λ (x : RowAt). not (x.asm == at.asm))) (are (old_name recs at)) ∙ rival_is recs at before in
    ap (λ (b : Bool). map (contest at) (listed (if b then find (is_rival recs at) (filter (is_top_level recs) before) else None))) top
    ∙ ap (λ (o : Option RowAt). map (contest at) (listed o)) (sym found)
