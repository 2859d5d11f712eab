use Rattle.std.proofs.Common.{◌≡◌, ℕ, suc, ◌+◌, ◌-◌, ◌*◌, ◌<◌, List, [], ◌∷◌, ◌++◌, drop, sym, ap, ◌∙◌, append_assoc, arith}
use Rattle.std.proofs.lemmas.List.{drop-drop, take_rest}
use Rattle.byteorder.specs.Endian.{little_number}
use Rattle.il_base.specs.body_grammar.Instructions as grammar
use Rattle.il_code.proofs.instructions.targets.Goals as goal

-- one more target
one_more : (before : List ℕ) (count i end : ℕ) (bs : List ℕ) (distance : ℕ) (all : List ℕ) → i < count → distance ≡ little_number 4 (drop (4 * i) bs)
    → before ++ grammar.targets (count - i) end (drop (4 * i) bs) ≡ all
    → (before ++ grammar.target end distance ∷ []) ++ grammar.targets (count - (i + 1)) end (drop (4 * (i + 1)) bs) ≡ all
one_more before count i end bs distance all lt d h =
    let k : count - i ≡ suc (count - (i + 1)) = omega arith in
    let next : drop 4 (drop (4 * i) bs) ≡ drop (4 * (i + 1)) bs = drop-drop 4 (4 * i) bs ∙ ap (λ (n : ℕ). drop n bs) (omega arith) in
    let step : grammar.targets (count - i) end (drop (4 * i) bs) ≡ grammar.target end distance ∷ grammar.targets (count - (i + 1)) end (drop (4 * (i + 1)) bs) =
    ap (λ (n : ℕ). grammar.targets n end (drop (4 * i) bs)) k
    ∙ ap (λ (x : ℕ). grammar.target end x ∷ grammar.targets (count - (i + 1)) end (drop 4 (drop (4 * i) bs))) (sym d)
    ∙ ap (λ (x : List ℕ). grammar.target end distance ∷ grammar.targets (count - (i + 1)) end x) next in
    append_assoc before (grammar.target end distance ∷ []) (grammar.targets (count - (i + 1)) end (drop (4 * (i + 1)) bs))
    ∙ ap (λ (x : List ℕ). before ++ x) (sym step) ∙ h

pub loop-i-preserved : goal.loop-i-preserved
loop-i-preserved c =
    let pushed : c.push.new.self ≡ c.loop-i.targets ++ grammar.target c.args.end c.read_u32-distance.result ∷ [] =
    c.in_ok-push.ensures.ok ∙ ap (λ (x : ℕ). c.loop-i.targets ++ x ∷ []) c.target.ensures in
    rw pushed (one_more c.loop-i.targets c.args.count c.loop-i.i c.args.end c.args.bytes.now c.read_u32-distance.result
    (grammar.targets c.args.count c.args.end c.args.bytes.now) c.loop-i-test.true
    (c.read_u32-distance.ensures ∙ ap (little_number 4) (take_rest c.args.bytes.now (4 * c.loop-i.i))) c.loop-i.invariant)
