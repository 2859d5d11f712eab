-- Texts byte by byte are the UTF-8 of characters.
use Rattle.std.proofs.Common.{◌≡◌, ℕ, zero, suc, ◌+◌, ◌-◌, ◌*◌, ◌/◌, ◌%◌, ◌<◌, ◌≤◌, ◌⊎◌, inl, inr, Bool, true, false, nat_lt, nat_le, ◌&&◌, ◌==◌, List, [], ◌∷◌, Option, Some, refl, sym, ap, subst, ◌∙◌, arith}
use Rattle.std.specs.Char.{encode_utf8, IsScalar}
use Rattle.std.proofs.lemmas.Bool.{cond_both, cases_lt, lt-ltb, le-ltb, leb-true, ltb-true, eqb-true, eqb-false, le-leb, lt-leb, cases_eq, ne_eqb}
use Rattle.attr_blobs.specs.declared.text.Expect.{Expect}
use Rattle.attr_blobs.specs.Texts.{expect, between, behind_first}

-- the bytes of a character after its first: how many, and between which bounds the next one is
abbrev pub IsTail : ℕ → ℕ → ℕ → List ℕ → Type 0
IsTail zero low high [] = Unit {0}
IsTail zero low high (b ∷ bs) = ⊥
IsTail (suc more) low high [] = ⊥
IsTail (suc more) low high (b ∷ bs) = (low ≤ b) × (b ≤ high) × IsTail more 128 191 bs

-- a first byte of a character, and what is expected after it
pub data Lead : ℕ → Expect → Type 0 where
  one : (b : ℕ) → b < 128 → Lead b (expect 0 128 191)
  two : (b : ℕ) → 194 ≤ b → b ≤ 223 → Lead b (expect 1 128 191)
  three_low : Lead 224 (expect 2 160 191)
  three_high : Lead 237 (expect 2 128 159)
  three : (b : ℕ) → 225 ≤ b → b ≤ 239 → (b ≡ 237 → ⊥) → Lead b (expect 2 128 191)
  four_low : Lead 240 (expect 3 144 191)
  four : (b : ℕ) → 241 ≤ b → b ≤ 243 → Lead b (expect 3 128 191)
  four_high : Lead 244 (expect 3 128 143)

abbrev just : Expect → Option Expect
just e = Some e

pub just_is : (d e : Expect) → just d ≡ just e → d ≡ e
just_is d e h = cc

pub both_true : (s t : Bool) → (s && t) ≡ true → (s ≡ true) × (t ≡ true)
both_true true t h = (refl, h)
both_true false t h = absurd cc

pub within : (low high b : ℕ) → between low high b ≡ true → (low ≤ b) × (b ≤ high)
within low high b h = let p = both_true _ _ h in (leb-true low b p.0, leb-true b high p.1)

pub inside : (low high b : ℕ) → low ≤ b → b ≤ high → between low high b ≡ true
inside low high b h k = rw (le-leb low b h, le-leb b high k) refl

below : (low high b : ℕ) → b < low → between low high b ≡ false
below low high b h = rw (lt-leb low b h) refl

above : (low high b : ℕ) → high < b → between low high b ≡ false
above low high b h = elim (cases_lt b low) [ inl lt ↦ below low high b lt | inr le ↦ rw (le-leb low b le, lt-leb b high h) refl ]

abbrev Leads : ℕ → Option Expect → Type 0
Leads b o = (e : Expect) → o ≡ Some e → Lead b e

at_byte : (b n : ℕ) (e : Expect) → Lead n e → (b == n) ≡ true → Leads b (Some e)
at_byte b n e lead h d k = subst (Lead b) (just_is e d k) (subst (λ (m : ℕ). Lead m e) (sym (eqb-true b n h)) lead)

pub is_lead : (b : ℕ) (e : Expect) → behind_first b ≡ Some e → Lead b e
is_lead b =
    cond_both _ _ _ (Leads b) (λ (h : nat_lt b 128 ≡ true) d k. subst (Lead b) (just_is _ d k) (one b (ltb-true b 128 h)))
    (λ _. cond_both _ _ _ (Leads b) (λ (h : between 194 223 b ≡ true) d k. let w = within 194 223 b h in subst (Lead b) (just_is _ d k) (two b w.0 w.1))
    (λ _. cond_both _ _ _ (Leads b) (at_byte b 224 _ three_low)
    (λ n. cond_both _ _ _ (Leads b) (at_byte b 237 _ three_high)
    (λ m. cond_both _ _ _ (Leads b) (λ (h : between 225 239 b ≡ true) d k. let w = within 225 239 b h in subst (Lead b) (just_is _ d k) (three b w.0 w.1 (eqb-false b 237 m)))
    (λ _. cond_both _ _ _ (Leads b) (at_byte b 240 _ four_low)
    (λ _. cond_both _ _ _ (Leads b) (λ (h : between 241 243 b ≡ true) d k. let w = within 241 243 b h in subst (Lead b) (just_is _ d k) (four b w.0 w.1))
    (λ _. cond_both _ _ _ (Leads b) (at_byte b 244 _ four_high) (λ _ d k. absurd cc))))))))

pub lead_some : (b : ℕ) (e : Expect) → Lead b e → e.low ≤ e.high
lead_some _ _ (one b h) = omega arith
lead_some _ _ (two b h k) = omega arith
lead_some _ _ three_low = omega arith
lead_some _ _ three_high = omega arith
lead_some _ _ (three b h k n) = omega arith
lead_some _ _ four_low = omega arith
lead_some _ _ (four b h k) = omega arith
lead_some _ _ four_high = omega arith

pub lead_first : (b : ℕ) (e : Expect) → Lead b e → behind_first b ≡ Some e
lead_first _ _ (one b h) = rw (lt-ltb b 128 h) refl
lead_first _ _ (two b h k) = rw (le-ltb b 128 (omega arith), inside 194 223 b h k) refl
lead_first _ _ three_low = refl
lead_first _ _ three_high = refl
lead_first _ _ (three b h k n) =
    let not : b ≡ 224 → ⊥ = λ (x : b ≡ 224). omega arith in
    rw (le-ltb b 128 (omega arith), above 194 223 b (omega arith), ne_eqb b 224 not, ne_eqb b 237 n, inside 225 239 b h k) refl
lead_first _ _ four_low = refl
lead_first _ _ (four b h k) =
    let not_a : b ≡ 224 → ⊥ = λ (x : b ≡ 224). omega arith in
    let not_b : b ≡ 237 → ⊥ = λ (x : b ≡ 237). omega arith in
    let not_c : b ≡ 240 → ⊥ = λ (x : b ≡ 240). omega arith in
    rw (le-ltb b 128 (omega arith), above 194 223 b (omega arith), ne_eqb b 224 not_a, ne_eqb b 237 not_b, above 225 239 b (omega arith), ne_eqb b 240 not_c, inside 241 243 b h k) refl
lead_first _ _ four_high = refl

-- ---- three and four bytes are a character

abbrev pub Spells : List ℕ → Type 0
Spells bs = (c : ℕ) × IsScalar c × (encode_utf8 c ≡ bs)

scalar_low : (c : ℕ) → c < 55296 → IsScalar c
scalar_low c h = rw (lt-ltb c 55296 h) refl

scalar_high : (c : ℕ) → 57344 ≤ c → c < 1114112 → IsScalar c
scalar_high c h k = rw (le-ltb c 55296 (omega arith), le-leb 57344 c h, lt-ltb c 1114112 k) refl

encoded_one : (c : ℕ) → c < 128 → encode_utf8 c ≡ c ∷ []
unfolding encode_utf8
encoded_one c h = rw (lt-ltb c 128 h) refl

spells_one : (b : ℕ) → b < 128 → Spells (b ∷ [])
spells_one b h = (b, scalar_low b (omega arith), encoded_one b h)

encoded_two : (c b t : ℕ) → 128 ≤ c → c < 2048 → 192 + c / 64 ≡ b → 128 + c % 64 ≡ t → encode_utf8 c ≡ b ∷ t ∷ []
unfolding encode_utf8
encoded_two c b t h k e f = rw (le-ltb c 128 h, lt-ltb c 2048 k, e, f) refl

spells_two : (b t : ℕ) → 194 ≤ b → b ≤ 223 → 128 ≤ t → t ≤ 191 → Spells (b ∷ t ∷ [])
spells_two b t h k l m =
    let c : ℕ = (b - 192) * 64 + (t - 128) in
    (c, scalar_low c (omega arith), encoded_two c b t (omega arith) (omega arith) (omega arith) (omega arith))

encoded_three : (c b t u : ℕ) → 2048 ≤ c → c < 65536 → 224 + c / 4096 ≡ b → 128 + c / 64 % 64 ≡ t → 128 + c % 64 ≡ u → encode_utf8 c ≡ b ∷ t ∷ u ∷ []
unfolding encode_utf8
encoded_three c b t u h k e f g = rw (le-ltb c 128 (omega arith), le-ltb c 2048 h, lt-ltb c 65536 k, e, f, g) refl

spells_three : (b t u : ℕ) → 224 ≤ b → b ≤ 239 → 128 ≤ t → t ≤ 191 → 128 ≤ u → u ≤ 191 → 32 ≤ (b - 224) * 64 + (t - 128) → ((b - 224) * 64 + (t - 128) < 864) ⊎ (896 ≤ (b - 224) * 64 + (t - 128)) → Spells (b ∷ t ∷ u ∷ [])
spells_three b t u h k l m n o low high =
    let c : ℕ = (b - 224) * 4096 + (t - 128) * 64 + (u - 128) in
    let e : encode_utf8 c ≡ b ∷ t ∷ u ∷ [] = encoded_three c b t u (omega arith) (omega arith) (omega arith) (omega arith) (omega arith) in
    elim high [ inl lt ↦ (c, scalar_low c (omega arith), e) | inr le ↦ (c, scalar_high c (omega arith) (omega arith), e) ]

encoded_four : (c b t u v : ℕ) → 65536 ≤ c → 240 + c / 262144 ≡ b → 128 + c / 4096 % 64 ≡ t → 128 + c / 64 % 64 ≡ u → 128 + c % 64 ≡ v → encode_utf8 c ≡ b ∷ t ∷ u ∷ v ∷ []
unfolding encode_utf8
encoded_four c b t u v h e f g i = rw (le-ltb c 128 (omega arith), le-ltb c 2048 (omega arith), le-ltb c 65536 h, e, f, g, i) refl

spells_four : (b t u v : ℕ) → 240 ≤ b → b ≤ 244 → 128 ≤ t → t ≤ 191 → 128 ≤ u → u ≤ 191 → 128 ≤ v → v ≤ 191 → 16 ≤ (b - 240) * 64 + (t - 128) → (b - 240) * 64 + (t - 128) < 272 → Spells (b ∷ t ∷ u ∷ v ∷ [])
spells_four b t u v h k l m n o p q low high =
    let c : ℕ = (b - 240) * 262144 + (t - 128) * 4096 + (u - 128) * 64 + (v - 128) in
    (c, scalar_high c (omega arith) (omega arith), encoded_four c b t u v (omega arith) (omega arith) (omega arith) (omega arith) (omega arith))

-- a first byte and what is expected after it spell a character
pub spells : (b : ℕ) (e : Expect) → Lead b e → (tail : List ℕ) → IsTail e.more e.low e.high tail → Spells (b ∷ tail)
spells _ _ (one b h) [] i = spells_one b h
spells _ _ (one b h) (t ∷ ts) i = absurd i
spells _ _ (two b h k) [] i = absurd i
spells _ _ (two b h k) (t ∷ []) i = spells_two b t h k i.0 i.1
spells _ _ (two b h k) (t ∷ u ∷ us) i = absurd i.2
spells _ _ three_low [] i = absurd i
spells _ _ three_low (t ∷ []) i = absurd i.2
spells _ _ three_low (t ∷ u ∷ []) i = let j = i.2 in spells_three 224 t u (omega arith) (omega arith) (omega arith) i.1 j.0 j.1 (omega arith) (inl (omega arith))
spells _ _ three_low (t ∷ u ∷ v ∷ vs) i = let j = i.2 in absurd j.2
spells _ _ three_high [] i = absurd i
spells _ _ three_high (t ∷ []) i = absurd i.2
spells _ _ three_high (t ∷ u ∷ []) i = let j = i.2 in spells_three 237 t u (omega arith) (omega arith) i.0 (omega arith) j.0 j.1 (omega arith) (inl (omega arith))
spells _ _ three_high (t ∷ u ∷ v ∷ vs) i = let j = i.2 in absurd j.2
spells _ _ (three b h k n) [] i = absurd i
spells _ _ (three b h k n) (t ∷ []) i = absurd i.2
spells _ _ (three b h k n) (t ∷ u ∷ []) i =
    let j = i.2 in
    spells_three b t u (omega arith) k i.0 i.1 j.0 j.1 (omega arith) (elim (cases_lt b 237) [ inl lt ↦ inl (omega arith) | inr le ↦ inr (let m : 238 ≤ b = omega (arith, n) in omega arith) ])
spells _ _ (three b h k n) (t ∷ u ∷ v ∷ vs) i = let j = i.2 in absurd j.2
spells _ _ four_low [] i = absurd i
spells _ _ four_low (t ∷ []) i = absurd i.2
spells _ _ four_low (t ∷ u ∷ []) i = let j = i.2 in absurd j.2
spells _ _ four_low (t ∷ u ∷ v ∷ []) i =
    let j = i.2 in let l = j.2 in spells_four 240 t u v (omega arith) (omega arith) (omega arith) i.1 j.0 j.1 l.0 l.1 (omega arith) (omega arith)
spells _ _ four_low (t ∷ u ∷ v ∷ w ∷ ws) i = let j = i.2 in let l = j.2 in absurd l.2
spells _ _ (four b h k) [] i = absurd i
spells _ _ (four b h k) (t ∷ []) i = absurd i.2
spells _ _ (four b h k) (t ∷ u ∷ []) i = let j = i.2 in absurd j.2
spells _ _ (four b h k) (t ∷ u ∷ v ∷ []) i =
    let j = i.2 in let l = j.2 in spells_four b t u v (omega arith) (omega arith) i.0 i.1 j.0 j.1 l.0 l.1 (omega arith) (omega arith)
spells _ _ (four b h k) (t ∷ u ∷ v ∷ w ∷ ws) i = let j = i.2 in let l = j.2 in absurd l.2
spells _ _ four_high [] i = absurd i
spells _ _ four_high (t ∷ []) i = absurd i.2
spells _ _ four_high (t ∷ u ∷ []) i = let j = i.2 in absurd j.2
spells _ _ four_high (t ∷ u ∷ v ∷ []) i =
    let j = i.2 in let l = j.2 in spells_four 244 t u v (omega arith) (omega arith) i.0 (omega arith) j.0 j.1 l.0 l.1 (omega arith) (omega arith)
spells _ _ four_high (t ∷ u ∷ v ∷ w ∷ ws) i = let j = i.2 in let l = j.2 in absurd l.2

-- ---- a character's bytes are a first byte and what is expected after it

pub record Begun (c : ℕ) : Type 0 where
  pub byte : ℕ
  pub next : Expect
  pub tail : List ℕ
  pub lead : Lead byte next
  pub is_tail : IsTail next.more next.low next.high tail
  pub bytes : encode_utf8 c ≡ byte ∷ tail

scalar_not : (c : ℕ) → IsScalar c → (c < 55296) ⊎ ((57344 ≤ c) × (c < 1114112))
scalar_not c h =
    elim (cases_lt c 55296) [
      | inl lt ↦ inl lt
      | inr le ↦
          let k : (nat_le 57344 c && nat_lt c 1114112) ≡ true = rw (le-ltb c 55296 le) at h in
          let p = both_true _ _ k in inr (leb-true 57344 c p.0, ltb-true c 1114112 p.1)
    ]

begun_three : (c b t u : ℕ) → IsScalar c → 2048 ≤ c → c < 65536 → 224 + c / 4096 ≡ b → 128 + c / 64 % 64 ≡ t → 128 + c % 64 ≡ u → Begun c
begun_three c b t u s h k e f g =
    let is = encoded_three c b t u h k e f g in
    let l : 128 ≤ t = omega arith in
    let m : t ≤ 191 = omega arith in
    let n : 128 ≤ u = omega arith in
    let o : u ≤ 191 = omega arith in
    elim (cases_eq b 224) [
      | inl low ↦ record { byte = 224; next = expect 2 160 191; tail = t ∷ u ∷ []; lead = three_low; is_tail = (omega arith, m, (n, o, tt)); bytes = is ∙ ap (λ (x : ℕ). x ∷ t ∷ u ∷ []) low }
      | inr not_low ↦ elim (cases_eq b 237) [
        | inl high ↦
            let not : t ≤ 159 = elim (scalar_not c s) [ inl lt ↦ omega arith | inr w ↦ absurd (let x = w.0 in omega arith) ] in
            record { byte = 237; next = expect 2 128 159; tail = t ∷ u ∷ []; lead = three_high; is_tail = (l, not, (n, o, tt)); bytes = is ∙ ap (λ (x : ℕ). x ∷ t ∷ u ∷ []) high }
        | inr not_high ↦ record { byte = b; next = expect 2 128 191; tail = t ∷ u ∷ []; lead = three b (omega (arith, not_low)) (omega arith) not_high; is_tail = (l, m, (n, o, tt)); bytes = is }
      ]
    ]

begun_four : (c b t u v : ℕ) → 65536 ≤ c → c < 1114112 → 240 + c / 262144 ≡ b → 128 + c / 4096 % 64 ≡ t → 128 + c / 64 % 64 ≡ u → 128 + c % 64 ≡ v → Begun c
begun_four c b t u v h k e f g i =
    let is = encoded_four c b t u v h e f g i in
    let l : 128 ≤ t = omega arith in
    let m : t ≤ 191 = omega arith in
    let n : 128 ≤ u = omega arith in
    let o : u ≤ 191 = omega arith in
    let p : 128 ≤ v = omega arith in
    let q : v ≤ 191 = omega arith in
    elim (cases_eq b 240) [
      | inl low ↦ record { byte = 240; next = expect 3 144 191; tail = t ∷ u ∷ v ∷ []; lead = four_low; is_tail = (omega arith, m, (n, o, (p, q, tt))); bytes = is ∙ ap (λ (x : ℕ). x ∷ t ∷ u ∷ v ∷ []) low }
      | inr not_low ↦ elim (cases_eq b 244) [
        | inl high ↦ record { byte = 244; next = expect 3 128 143; tail = t ∷ u ∷ v ∷ []; lead = four_high; is_tail = (l, omega arith, (n, o, (p, q, tt))); bytes = is ∙ ap (λ (x : ℕ). x ∷ t ∷ u ∷ v ∷ []) high }
        | inr not_high ↦ record { byte = b; next = expect 3 128 191; tail = t ∷ u ∷ v ∷ []; lead = four b (omega (arith, not_low)) (omega (arith, not_high)); is_tail = (l, m, (n, o, (p, q, tt))); bytes = is }
      ]
    ]

pub begun : (c : ℕ) → IsScalar c → Begun c
begun c s =
    elim (cases_lt c 128) [
      | inl lt ↦ record { byte = c; next = expect 0 128 191; tail = []; lead = one c lt; is_tail = tt; bytes = encoded_one c lt }
      | inr le ↦ elim (cases_lt c 2048) [
        | inl lt ↦ record {
          byte = 192 + c / 64;
          next = expect 1 128 191;
          tail = (128 + c % 64) ∷ [];
          lead = two (192 + c / 64) (omega arith) (omega arith);
          is_tail = (omega arith, omega arith, tt);
          bytes = encoded_two c (192 + c / 64) (128 + c % 64) le lt refl refl;
        }
        | inr ge ↦ elim (cases_lt c 65536) [
          | inl lt ↦ begun_three c _ _ _ s ge lt refl refl refl
          | inr gt ↦ elim (scalar_not c s) [
            | inl lt ↦ absurd (omega arith)
            | inr w ↦ begun_four c _ _ _ _ gt w.1 refl refl refl refl
          ]
        ]
      ]
    ]
