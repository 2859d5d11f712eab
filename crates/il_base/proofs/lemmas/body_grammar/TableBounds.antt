-- Every opcode of the table has one byte, or two of which the first is fe; fe alone is none.
use Rattle.std.proofs.Common.{◌≡◌, ℕ, ◌<◌, ◌≤◌, Bool, true, false, cond, ltb, leb, ◌&&◌, ◌||◌, List, [], ◌∷◌, Option, Some, None, ◌⊎◌, inl, inr, refl, arith}
use Rattle.std.proofs.lemmas.Bool.{ltb-true, leb-true, and_parts, or_cases}
use Rattle.il_base.specs.declared.body.Form.{Form}
use Rattle.il_base.specs.declared.body_grammar.body.Row.{Row}
use Rattle.il_base.specs.declared.body_grammar.body.Inline.{Inline}
use Rattle.il_base.specs.body_grammar.Opcodes.{variables, constants, branches, arithmetic, objects, arrays, indirect, kind_in, or_else, kind_of}

-- the run of a row lies below fe, or in fe00 to feff
is_placed : Row → Bool
is_placed r = ltb r.to 254 || (leb 65024 r.from && ltb r.to 65280)

are_placed : List Row → Bool
are_placed [] = true
are_placed (r ∷ rs) = is_placed r && are_placed rs

abbrev pub IsPlaced : ℕ → Type 0
IsPlaced op = (op < 254) ⊎ ((65024 ≤ op) × (op < 65280))

row_places : (r : Row) (op : ℕ) → is_placed r ≡ true → (leb r.from op && leb op r.to) ≡ true → IsPlaced op
unfolding is_placed
row_places r op placed e =
    let p = and_parts (leb r.from op) (leb op r.to) e in
    let above : r.from ≤ op = leb-true r.from op p.0 in
    let below : op ≤ r.to = leb-true op r.to p.1 in
    elim (or_cases (ltb r.to 254) (leb 65024 r.from && ltb r.to 65280) placed) [
      | inl one ↦ let h : r.to < 254 = ltb-true r.to 254 one in inl (omega arith)
      | inr two ↦
          let q = and_parts (leb 65024 r.from) (ltb r.to 65280) two in
          let h : 65024 ≤ r.from = leb-true 65024 r.from q.0 in
          let k : r.to < 65280 = ltb-true r.to 65280 q.1 in
          inr (omega arith, omega arith)
    ]

chosen : {A : Type 0} (b : Bool) (x y z : A) → cond b x y ≡ z → ((b ≡ true) × (x ≡ z)) ⊎ (y ≡ z)
chosen true x y z e = inl (refl, e)
chosen false x y z e = inr e

rows_place : (rs : List Row) (op : ℕ) (kind : Form × Inline) → are_placed rs ≡ true → kind_in rs op ≡ Some kind → IsPlaced op
unfolding are_placed
rows_place [] op kind placed e = absurd cc
rows_place (r ∷ rs) op kind placed e =
    let p = and_parts (is_placed r) (are_placed rs) placed in
    elim (chosen (leb r.from op && leb op r.to) (Some (r.form, r.inline)) (kind_in rs op) (Some kind) e) [
      | inl found ↦ row_places r op p.0 found.0
      | inr later ↦ rows_place rs op kind p.1 later
    ]

first_of : (a b : Option (Form × Inline)) (kind : Form × Inline) → or_else a b ≡ Some kind → (a ≡ Some kind) ⊎ (b ≡ Some kind)
first_of None b kind e = inr e
first_of (Some x) b kind e = inl e

pub opcode_placed : (op : ℕ) (kind : Form × Inline) → kind_of op ≡ Some kind → IsPlaced op
unfolding kind_of variables constants branches arithmetic objects arrays indirect are_placed is_placed
opcode_placed op kind e =
    elim (first_of (kind_in variables op) _ kind e) [
      | inl h ↦ rows_place variables op kind refl h
      | inr e ↦ elim (first_of (kind_in constants op) _ kind e) [
        | inl h ↦ rows_place constants op kind refl h
        | inr e ↦ elim (first_of (kind_in branches op) _ kind e) [
          | inl h ↦ rows_place branches op kind refl h
          | inr e ↦ elim (first_of (kind_in arithmetic op) _ kind e) [
            | inl h ↦ rows_place arithmetic op kind refl h
            | inr e ↦ elim (first_of (kind_in objects op) _ kind e) [
              | inl h ↦ rows_place objects op kind refl h
              | inr e ↦ elim (first_of (kind_in arrays op) (kind_in indirect op) kind e) [
                | inl h ↦ rows_place arrays op kind refl h
                | inr h ↦ rows_place indirect op kind refl h
              ]
            ]
          ]
        ]
      ]
    ]
