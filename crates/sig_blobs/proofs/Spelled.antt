-- What stands inside a type that has a spelling has one too, one level below.
use Rattle.std.proofs.Common.{◌≡◌, ℕ, suc, ◌-◌, ◌<◌, Bool, List, length, sym, ap, subst, ◌∙◌, arith}
use Rattle.std.specs.List.{AllByRecursion}
use Rattle.std.proofs.lemmas.List.Elements.{All-from_recursion}
use Rattle.il_base.specs.declared.sig.MethodSig.{MethodSig}
use Rattle.il_base.specs.declared.sig.Sig.{Sig, out-Sig}
use Rattle.il_base.specs.declared.sig.Sig.TheOpen.{Sig-F}
use Rattle.il_base.specs.declared.sig.Sig.TheVariants.{Array, ByRef, Inst, Var, MVar, Mod, Pinned, outs-Array, outs-ByRef, outs-Pinned, outs-Mod, outs-Inst}
use Rattle.il_base.specs.blob_grammar.Numbers.{IsNumber, one, two, four}
use Rattle.il_base.specs.blob_grammar.Signatures.{levels, IsType, AreTypes, primitive, named, of_type, of_method, vector, reference, pinned, modified, instance, none, more, AreParts, parts, IsMethod, plain, generic, IsProperty, property, IsField, field, AreCounted, counted}
use Rattle.sig_blobs.specs.Answers.{HasSpelling, HaveSpellings}

number_small : (n : ℕ) (bs : List ℕ) → IsNumber n bs → n < 536870912
number_small _ _ (one b lt) = omega arith
number_small _ _ (two h c lt k) = omega arith
number_small _ _ (four h c d e lt k l m) = omega arith

each_spelled : (room : ℕ) (ss : List Sig) (bs : List ℕ) → AreTypes room ss bs → AllByRecursion (HasSpelling room) ss
each_spelled _ _ _ (none room) = tt
each_spelled _ _ _ (more room s ss front bs h k) = ((front, h), each_spelled room ss bs k)

spelled_row : (room : ℕ) (ss : List Sig) (ns bs : List ℕ) → IsNumber (length ss) ns → AreTypes room ss bs → HaveSpellings room ss
spelled_row room ss ns bs n h = (number_small (length ss) ns n, All-from_recursion (HasSpelling room) ss (each_spelled room ss bs h))

-- a type one level below
pub record Below (P : ℕ → Type 0) (room : ℕ) : Type 0 where
  pub deep : 0 < room
  pub inside : P (room - 1)

below : (P : ℕ → Type 0) (room : ℕ) → P room → Below P (suc room)
below P room h = let e : suc room - 1 ≡ room = omega arith in record { deep = omega arith; inside = rw e h }

open_array : (s t : Sig) → Sig-F.Array s ≡ Sig-F.Array t → s ≡ t
open_array s t e = cc

same_array : (s t : Sig) → Array s ≡ Array t → s ≡ t
same_array s t e = open_array s t (sym (outs-Array s) ∙ ap out-Sig e ∙ outs-Array t)

array_at : (room : ℕ) (s : Sig) (bs : List ℕ) → IsType room s bs → (t : Sig) → s ≡ Array t → Below (λ r. HasSpelling r t) room
array_at _ _ _ (primitive room b h) t e = absurd cc
array_at _ _ _ (named room value token bs h) t e = absurd cc
array_at _ _ _ (of_type room n bs h) t e = absurd cc
array_at _ _ _ (of_method room n bs h) t e = absurd cc
array_at _ _ _ (vector room s bs h) t e = below (λ r. HasSpelling r t) room (subst (HasSpelling room) (same_array s t e) (bs, h))
array_at _ _ _ (reference room s bs h) t e = absurd cc
array_at _ _ _ (pinned room s bs h) t e = absurd cc
array_at _ _ _ (modified room required token s ts bs k h) t e = absurd cc
array_at _ _ _ (instance room value token ss ts ns bs k n h) t e = absurd cc

pub array_inside : (room : ℕ) (s : Sig) → HasSpelling room s → (t : Sig) → s ≡ Array t → Below (λ r. HasSpelling r t) room
array_inside room s h t e = array_at room s h.0 h.1 t e

open_by_ref : (s t : Sig) → Sig-F.ByRef s ≡ Sig-F.ByRef t → s ≡ t
open_by_ref s t e = cc

same_by_ref : (s t : Sig) → ByRef s ≡ ByRef t → s ≡ t
same_by_ref s t e = open_by_ref s t (sym (outs-ByRef s) ∙ ap out-Sig e ∙ outs-ByRef t)

by_ref_at : (room : ℕ) (s : Sig) (bs : List ℕ) → IsType room s bs → (t : Sig) → s ≡ ByRef t → Below (λ r. HasSpelling r t) room
by_ref_at _ _ _ (primitive room b h) t e = absurd cc
by_ref_at _ _ _ (named room value token bs h) t e = absurd cc
by_ref_at _ _ _ (of_type room n bs h) t e = absurd cc
by_ref_at _ _ _ (of_method room n bs h) t e = absurd cc
by_ref_at _ _ _ (vector room s bs h) t e = absurd cc
by_ref_at _ _ _ (reference room s bs h) t e = below (λ r. HasSpelling r t) room (subst (HasSpelling room) (same_by_ref s t e) (bs, h))
by_ref_at _ _ _ (pinned room s bs h) t e = absurd cc
by_ref_at _ _ _ (modified room required token s ts bs k h) t e = absurd cc
by_ref_at _ _ _ (instance room value token ss ts ns bs k n h) t e = absurd cc

pub by_ref_inside : (room : ℕ) (s : Sig) → HasSpelling room s → (t : Sig) → s ≡ ByRef t → Below (λ r. HasSpelling r t) room
by_ref_inside room s h t e = by_ref_at room s h.0 h.1 t e

open_pin : (s t : Sig) → Sig-F.Pinned s ≡ Sig-F.Pinned t → s ≡ t
open_pin s t e = cc

same_pin : (s t : Sig) → Pinned s ≡ Pinned t → s ≡ t
same_pin s t e = open_pin s t (sym (outs-Pinned s) ∙ ap out-Sig e ∙ outs-Pinned t)

pin_at : (room : ℕ) (s : Sig) (bs : List ℕ) → IsType room s bs → (t : Sig) → s ≡ Pinned t → Below (λ r. HasSpelling r t) room
pin_at _ _ _ (primitive room b h) t e = absurd cc
pin_at _ _ _ (named room value token bs h) t e = absurd cc
pin_at _ _ _ (of_type room n bs h) t e = absurd cc
pin_at _ _ _ (of_method room n bs h) t e = absurd cc
pin_at _ _ _ (vector room s bs h) t e = absurd cc
pin_at _ _ _ (reference room s bs h) t e = absurd cc
pin_at _ _ _ (pinned room s bs h) t e = below (λ r. HasSpelling r t) room (subst (HasSpelling room) (same_pin s t e) (bs, h))
pin_at _ _ _ (modified room required token s ts bs k h) t e = absurd cc
pin_at _ _ _ (instance room value token ss ts ns bs k n h) t e = absurd cc

pub pin_inside : (room : ℕ) (s : Sig) → HasSpelling room s → (t : Sig) → s ≡ Pinned t → Below (λ r. HasSpelling r t) room
pin_inside room s h t e = pin_at room s h.0 h.1 t e

open_mod : (p r : Bool) (m n : ℕ) (s t : Sig) → Sig-F.Mod p m s ≡ Sig-F.Mod r n t → s ≡ t
open_mod p r m n s t e = cc

same_mod : (p r : Bool) (m n : ℕ) (s t : Sig) → Mod p m s ≡ Mod r n t → s ≡ t
same_mod p r m n s t e = open_mod p r m n s t (sym (outs-Mod p m s) ∙ ap out-Sig e ∙ outs-Mod r n t)

mod_at : (room : ℕ) (s : Sig) (bs : List ℕ) → IsType room s bs → (r : Bool) (m : ℕ) (t : Sig) → s ≡ Mod r m t → Below (λ r. HasSpelling r t) room
mod_at _ _ _ (primitive room b h) r m t e = absurd cc
mod_at _ _ _ (named room value token bs h) r m t e = absurd cc
mod_at _ _ _ (of_type room n bs h) r m t e = absurd cc
mod_at _ _ _ (of_method room n bs h) r m t e = absurd cc
mod_at _ _ _ (vector room s bs h) r m t e = absurd cc
mod_at _ _ _ (reference room s bs h) r m t e = absurd cc
mod_at _ _ _ (pinned room s bs h) r m t e = absurd cc
mod_at _ _ _ (modified room required token s ts bs k h) r m t e = below (λ r. HasSpelling r t) room (subst (HasSpelling room) (same_mod required r token m s t e) (bs, h))
mod_at _ _ _ (instance room value token ss ts ns bs k n h) r m t e = absurd cc

pub mod_inside : (room : ℕ) (s : Sig) → HasSpelling room s → (r : Bool) (m : ℕ) (t : Sig) → s ≡ Mod r m t → Below (λ r. HasSpelling r t) room
mod_inside room s h r m t e = mod_at room s h.0 h.1 r m t e

open_inst : (p r : Bool) (m n : ℕ) (s t : List Sig) → Sig-F.Inst p m s ≡ Sig-F.Inst r n t → s ≡ t
open_inst p r m n s t e = cc

same_inst : (p r : Bool) (m n : ℕ) (s t : List Sig) → Inst p m s ≡ Inst r n t → s ≡ t
same_inst p r m n s t e = open_inst p r m n s t (sym (outs-Inst p m s) ∙ ap out-Sig e ∙ outs-Inst r n t)

inst_at : (room : ℕ) (s : Sig) (bs : List ℕ) → IsType room s bs → (r : Bool) (m : ℕ) (args : List Sig) → s ≡ Inst r m args → Below (λ r. HaveSpellings r args) room
inst_at _ _ _ (primitive room b h) r m args e = absurd cc
inst_at _ _ _ (named room value token bs h) r m args e = absurd cc
inst_at _ _ _ (of_type room n bs h) r m args e = absurd cc
inst_at _ _ _ (of_method room n bs h) r m args e = absurd cc
inst_at _ _ _ (vector room s bs h) r m args e = absurd cc
inst_at _ _ _ (reference room s bs h) r m args e = absurd cc
inst_at _ _ _ (pinned room s bs h) r m args e = absurd cc
inst_at _ _ _ (modified room required token s ts bs k h) r m args e = absurd cc
inst_at _ _ _ (instance room value token ss ts ns bs k n h) r m args e = below (λ r. HaveSpellings r args) room (subst (HaveSpellings room) (same_inst value r token m ss args e) (spelled_row room ss ns bs n h))

pub inst_inside : (room : ℕ) (s : Sig) → HasSpelling room s → (r : Bool) (m : ℕ) (args : List Sig) → s ≡ Inst r m args → Below (λ r. HaveSpellings r args) room
inst_inside room s h r m args e = inst_at room s h.0 h.1 r m args e

same_var : (m n : ℕ) → Var m ≡ Var n → m ≡ n
same_var m n e = cc

var_at : (room : ℕ) (s : Sig) (bs : List ℕ) → IsType room s bs → (t : ℕ) → s ≡ Var t → t < 536870912
var_at _ _ _ (primitive room b h) t e = absurd cc
var_at _ _ _ (named room value token bs h) t e = absurd cc
var_at _ _ _ (of_type room n bs h) t e = subst (λ (x : ℕ). x < 536870912) (same_var n t e) (number_small n bs h)
var_at _ _ _ (of_method room n bs h) t e = absurd cc
var_at _ _ _ (vector room s bs h) t e = absurd cc
var_at _ _ _ (reference room s bs h) t e = absurd cc
var_at _ _ _ (pinned room s bs h) t e = absurd cc
var_at _ _ _ (modified room required token s ts bs k h) t e = absurd cc
var_at _ _ _ (instance room value token ss ts ns bs k n h) t e = absurd cc

pub var_inside : (room : ℕ) (s : Sig) → HasSpelling room s → (t : ℕ) → s ≡ Var t → t < 536870912
var_inside room s h t e = var_at room s h.0 h.1 t e

same_mvar : (m n : ℕ) → MVar m ≡ MVar n → m ≡ n
same_mvar m n e = cc

mvar_at : (room : ℕ) (s : Sig) (bs : List ℕ) → IsType room s bs → (t : ℕ) → s ≡ MVar t → t < 536870912
mvar_at _ _ _ (primitive room b h) t e = absurd cc
mvar_at _ _ _ (named room value token bs h) t e = absurd cc
mvar_at _ _ _ (of_type room n bs h) t e = absurd cc
mvar_at _ _ _ (of_method room n bs h) t e = subst (λ (x : ℕ). x < 536870912) (same_mvar n t e) (number_small n bs h)
mvar_at _ _ _ (vector room s bs h) t e = absurd cc
mvar_at _ _ _ (reference room s bs h) t e = absurd cc
mvar_at _ _ _ (pinned room s bs h) t e = absurd cc
mvar_at _ _ _ (modified room required token s ts bs k h) t e = absurd cc
mvar_at _ _ _ (instance room value token ss ts ns bs k n h) t e = absurd cc

pub mvar_inside : (room : ℕ) (s : Sig) → HasSpelling room s → (t : ℕ) → s ≡ MVar t → t < 536870912
mvar_inside room s h t e = mvar_at room s h.0 h.1 t e

parts_spelled : (ret : Sig) (params : List Sig) (bs : List ℕ) → AreParts ret params bs → HasSpelling levels ret × HaveSpellings levels params
parts_spelled _ _ _ (parts ret params ns rs ps n r p) = ((rs, r), spelled_row levels params ns ps n p)

pub method_inside : (m : MethodSig) (bs : List ℕ) → IsMethod m bs → (m.generic < 536870912) × (HasSpelling levels m.ret × HaveSpellings levels m.params)
method_inside _ _ (plain this ret params bs h) = (omega arith, parts_spelled ret params bs h)
method_inside _ _ (generic this count ret params gs bs g h) = (number_small count gs g, parts_spelled ret params bs h)

pub property_inside : (m : MethodSig) (bs : List ℕ) → IsProperty m bs → HasSpelling levels m.ret × HaveSpellings levels m.params
property_inside _ _ (property this ret params bs h) = parts_spelled ret params bs h

pub field_inside : (s : Sig) (bs : List ℕ) → IsField s bs → HasSpelling levels s
field_inside _ _ (field s bs h) = (bs, h)

pub counted_inside : (lead : ℕ) (ss : List Sig) (bs : List ℕ) → AreCounted lead ss bs → HaveSpellings levels ss
counted_inside lead _ _ (counted ss ns bs n h) = spelled_row levels ss ns bs n h
