-- The loops over parameters and locals, and the list of all sources.
use Rattle.std.proofs.Common.{◌≡◌, ℕ, suc, ◌+◌, ◌-◌, ◌<◌, List, [], ◌∷◌, ◌++◌, map, replicate, arith, sym, ap, ◌∙◌, drop, add-one, drop-cons, length, get_or, subst}
use Rattle.std.proofs.lemmas.List.{append_assoc}
use Rattle.std.proofs.lemmas.List.Concat.{flat_map-cons}
use Rattle.std.specs.Prelude.{Option}
use Rattle.std.specs.List.{flat_map}
use Rattle.il_base.specs.declared.body.Instr.{Instr}
use Rattle.il_base.specs.declared.ids.TypeId.{TypeId}
use Rattle.il_base.specs.declared.world_model.record.AsmRec.{AsmRec}
use Rattle.rules.specs.link_rules.Cycles.{add_new, add_all}
use Rattle.rules.specs.declared.flow_rules.source.Source.{Source}
use Rattle.rules.specs.declared.flow_rules.source.Source.TheVariants as source
use Rattle.rules.specs.flow_rules.Methods.{Setting}
use Rattle.rules.specs.flow_rules.Sources.{same_source}
use Rattle.rules.specs.flow_rules.Moves.{parameters_from, parameters, sources_by, sources_of}
use Rattle.value_flow.specs.Numbers.{number_in}
use Rattle.value_flow.proofs.Listing.{all_append}

next_params : (k n : ℕ) → k < n → parameters_from k (n - k) ≡ source.Parameter k ∷ parameters_from (k + 1) (n - (k + 1))
next_params k n h = let z : n - k ≡ suc (n - (k + 1)) = omega arith in ap (parameters_from k) z

pub added_param : (xs ys zs : List Source) (k n : ℕ) → k < n → ys ≡ add_new same_source xs (source.Parameter k) → add_all same_source xs (parameters_from k (n - k)) ≡ zs
    → add_all same_source ys (parameters_from (k + 1) (n - (k + 1))) ≡ zs
added_param xs ys zs k n h e so_far =
    ap (λ (v : List Source). add_all same_source v (parameters_from (k + 1) (n - (k + 1)))) e ∙ sym (ap (λ (ps : List Source). add_all same_source xs ps) (next_params k n h)) ∙ so_far

pub put_param : (sources : List Source) (xs ys zs : List ℕ) (k m n : ℕ) → k < n → m ≡ number_in sources (source.Parameter k) → ys ≡ xs ++ m ∷ []
    → xs ++ map (number_in sources) (parameters_from k (n - k)) ≡ zs → ys ++ map (number_in sources) (parameters_from (k + 1) (n - (k + 1))) ≡ zs
put_param sources xs ys zs k m n h e put so_far =
    let step : map (number_in sources) (parameters_from k (n - k)) ≡ number_in sources (source.Parameter k) ∷ map (number_in sources) (parameters_from (k + 1) (n - (k + 1))) = ap (map (number_in sources)) (next_params k n h) in
    ap (λ (v : List ℕ). v ++ map (number_in sources) (parameters_from (k + 1) (n - (k + 1)))) put
    ∙ append_assoc xs (m ∷ []) (map (number_in sources) (parameters_from (k + 1) (n - (k + 1))))
    ∙ ap (λ (a : ℕ). xs ++ a ∷ map (number_in sources) (parameters_from (k + 1) (n - (k + 1)))) e
    ∙ sym (ap (λ (v : List ℕ). xs ++ v) step) ∙ so_far

next_null : (k n : ℕ) → k < n → replicate (n - k) source.Null ≡ source.Null ∷ replicate (n - (k + 1)) source.Null
next_null k n h = let z : n - k ≡ suc (n - (k + 1)) = omega arith in ap (λ (m : ℕ). replicate m source.Null) z

pub put_local : (sources : List Source) (xs ys zs : List ℕ) (k m n : ℕ) → k < n → m ≡ number_in sources source.Null → ys ≡ xs ++ m ∷ []
    → xs ++ map (number_in sources) (replicate (n - k) source.Null) ≡ zs → ys ++ map (number_in sources) (replicate (n - (k + 1)) source.Null) ≡ zs
put_local sources xs ys zs k m n h e put so_far =
    let step : map (number_in sources) (replicate (n - k) source.Null) ≡ number_in sources source.Null ∷ map (number_in sources) (replicate (n - (k + 1)) source.Null) = ap (map (number_in sources)) (next_null k n h) in
    ap (λ (v : List ℕ). v ++ map (number_in sources) (replicate (n - (k + 1)) source.Null)) put
    ∙ append_assoc xs (m ∷ []) (map (number_in sources) (replicate (n - (k + 1)) source.Null))
    ∙ ap (λ (a : ℕ). xs ++ a ∷ map (number_in sources) (replicate (n - (k + 1)) source.Null)) e
    ∙ sym (ap (λ (v : List ℕ). xs ++ v) step) ∙ so_far

pub all_listed : (recs : List AsmRec) (s : Setting) (owner : Option TypeId) (z a b c d : List Source) (n : ℕ) → z ≡ [] → n ≡ s.own.params
    → a ≡ add_new same_source z source.Null → b ≡ add_new same_source a source.Opaque → c ≡ add_all same_source b (parameters n)
    → d ≡ add_all same_source c (flat_map (sources_by recs s owner) s.body.code) → d ≡ sources_of recs s owner
unfolding sources_of
all_listed recs s owner z a b c d n ez en ea eb ec ed =
    let fa : a ≡ add_new same_source [] source.Null = ea ∙ ap (λ (v : List Source). add_new same_source v source.Null) ez in
    let fb : b ≡ add_new same_source (add_new same_source [] source.Null) source.Opaque = eb ∙ ap (λ (v : List Source). add_new same_source v source.Opaque) fa in
    let fc : c ≡ add_all same_source (add_new same_source (add_new same_source [] source.Null) source.Opaque) (parameters s.own.params) =
    ec ∙ ap (λ (v : List Source). add_all same_source v (parameters n)) fb
    ∙ ap (λ (m : ℕ). add_all same_source (add_new same_source (add_new same_source [] source.Null) source.Opaque) (parameters m)) en in
    ed ∙ ap (λ (v : List Source). add_all same_source v (flat_map (sources_by recs s owner) s.body.code)) fc
    ∙ sym (all_append (add_new same_source (add_new same_source [] source.Null) source.Opaque) (parameters s.own.params) (flat_map (sources_by recs s owner) s.body.code))

-- one more instruction
pub added_code : (f : Instr → List Source) (xs ys zs : List Source) (items code : List Instr) (i : ℕ) (x : Instr) → items ≡ code → i < length items → x ≡ get_or items i x → ys ≡ add_all same_source xs (f x)
    → add_all same_source xs (flat_map f (drop i code)) ≡ zs → add_all same_source ys (flat_map f (drop (i + 1) code)) ≡ zs
added_code f xs ys zs items code i x same within is e so_far =
    let here : drop i code ≡ x ∷ drop (i + 1) code =
    subst (λ (cs : List Instr). drop i cs ≡ x ∷ drop (i + 1) cs) same (rw add-one (drop-cons items i x within ∙ ap (λ (y : Instr). y ∷ drop (suc i) items) (sym is))) in
    let rest : flat_map f (drop i code) ≡ f x ++ flat_map f (drop (i + 1) code) = ap (flat_map f) here ∙ flat_map-cons f x (drop (i + 1) code) in
    ap (λ (v : List Source). add_all same_source v (flat_map f (drop (i + 1) code))) e ∙ sym (all_append xs (f x) (flat_map f (drop (i + 1) code)))
    ∙ sym (ap (λ (v : List Source). add_all same_source xs v) rest) ∙ so_far
