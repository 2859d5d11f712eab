-- Members of Console.
use Rattle.std.proofs.Common.{◌≡◌, ℕ, pos, negsuc, Bool, List, [], ◌∷◌, None, refl, sym, ap}
use Rattle.std.specs.Prelude.{IsTrue}
use Rattle.std.specs.Fmt.{signed_decimal}
use Rattle.std.specs.Option.{option_map}
use Rattle.il_base.specs.declared.cil_values.value.Value.{Value, out-Value, roll-Value}
use Rattle.il_base.specs.declared.cil_values.value.Value.TheVariants as value
use Rattle.il_base.specs.declared.cil_values.state.State.{State}
use Rattle.il_base.specs.declared.cil_values.core_call.Printed.{Printed}
use Rattle.il_base.specs.declared.cil_values.core_call.Printed.TheVariants.{OfString as of_string, OfNumber as of_number, OfBool as of_bool, OfChar as of_char, OfObject as of_object}
use Rattle.rules.specs.step_rules.Queries.{Queries}
use Rattle.rules.specs.step_rules.Words.{stuck}
use Rattle.rules.specs.step_rules.Objects.{bytes_of_units, units_of}
use Rattle.rules.specs.step_rules.CoreWords.{Gives, gives_value}
use Rattle.rules.specs.step_rules.CoreObjects.{truth_text}
use Rattle.rules.specs.step_rules.CoreConsole.{ended_line, bytes_of_text, bytes_of_char, printed_bytes, print_form, line_end_form, reading, read_from, read_unit_form, Line, line_of, line_units, line_from, read_line_form}
use Rattle.rules.specs.change_rules.Change.{Change}
use Rattle.rules.specs.change_rules.Moves.{move_value, move_values}
use Rattle.rules.specs.change_rules.States.{move_state}
use Rattle.rules.specs.change_rules.Keeps.{keeps_values}
use Rattle.rules.specs.change_rules.Covered.{Covered}
use Rattle.rules.specs.change_rules.Agree.{Agree}
use Rattle.rules.specs.change_rules.Lock.{Lock, GivesLock}
use Rattle.base_laws.proofs.lemmas.change_laws.Values.{move_null, move_object, keeps_null, keeps_object}
use Rattle.run_laws.proofs.lemmas.lock_words.Words.{stuck_lock, given_same}
use Rattle.run_laws.proofs.lemmas.lock_words.Cases.{moved_cases}
use Rattle.run_laws.proofs.lemmas.lock_throwing.Objects.{units_moved}
use Rattle.run_laws.proofs.lemmas.lock_places.Stores.{held_moved}
use Rattle.run_laws.proofs.lemmas.lock_fields.Texts.{made_text_lock}
use Rattle.run_laws.proofs.lemmas.lock_members.Giving.{still_lock, int_lock}

module _ (k : Change) (after before : Queries) (a : Agree k after before) where
  text_bytes_moved : (s : State) (v : Value) → bytes_of_text (move_state k before s) (move_value k.rho v) ≡ bytes_of_text s v
  unfolding roll-Value denote.Hole.Carrier.roll out-Value denote.Hole.Carrier.out
  text_bytes_moved s v =
      moved_cases k.rho (λ w v. units_of (move_state k before s) w ≡ units_of s v → bytes_of_text (move_state k before s) w ≡ bytes_of_text s v)
      (λ e. refl) (λ n e. refl) (λ n e. refl) (λ n e. refl) (λ n e. ap (option_map bytes_of_units) e) (λ p e. refl) (λ d cells e. refl) (λ d e. refl) (λ f e. refl) v (units_moved k after before a s v)

  bytes_moved : (kind : Printed) (s : State) (v : Value) → printed_bytes kind (move_state k before s) (move_value k.rho v) ≡ printed_bytes kind s v
  unfolding printed_bytes
  bytes_moved of_string s v = text_bytes_moved s v
  bytes_moved of_number s v = ap (option_map signed_decimal) (held_moved k v)
  bytes_moved of_bool s v = ap (option_map truth_text) (held_moved k v)
  bytes_moved of_char s v = ap (option_map bytes_of_char) (held_moved k v)
  bytes_moved of_object s v = text_bytes_moved s v

  module _ (s : State) (c : Covered k.keep before s) (f g : Gives) (gl : GivesLock k before f g) where
    out : Lock k before (stuck (move_state k before s)) (stuck s)
    out = stuck_lock k before s

    pub print_lock : (line : Bool) (kind : Printed) (args : List Value) → IsTrue (keeps_values k.keep args)
        → Lock k before (print_form line kind after (move_values k.rho args) (move_state k before s) f) (print_form line kind before args s g)
    unfolding print_form
    print_lock line kind (v ∷ []) h =
        given_same k before _ (printed_bytes kind s v) s (λ bytes. f (move_state k before s) None (ended_line line bytes)) (λ bytes. g s None (ended_line line bytes)) (bytes_moved kind s v) (λ bytes e. gl s None (ended_line line bytes) c refl)
    print_lock line kind _ h = out

    pub line_end_lock : (args : List Value) → IsTrue (keeps_values k.keep args) → Lock k before (line_end_form after (move_values k.rho args) (move_state k before s) f) (line_end_form before args s g)
    unfolding line_end_form
    line_end_lock [] h = gl s None (10 ∷ []) c refl
    line_end_lock (v ∷ vs) h = out

    reading_covered : (us : List ℕ) → Covered k.keep before (reading s us)
    reading_covered us = record { heap = c.heap; statics = c.statics; inits = c.inits; top = c.top; below = c.below }

    read_from_lock : (us : List ℕ) → Lock k before (read_from (move_state k before s) f us) (read_from s g us)
    read_from_lock [] = int_lock k after before a f g gl (negsuc 0) s c
    read_from_lock (u ∷ us) = int_lock k after before a f g gl (pos u) (reading s us) (reading_covered us)

    pub read_unit_lock : (args : List Value) → IsTrue (keeps_values k.keep args) → Lock k before (read_unit_form after (move_values k.rho args) (move_state k before s) f) (read_unit_form before args s g)
    unfolding read_unit_form
    read_unit_lock [] h = read_from_lock s.input
    read_unit_lock (v ∷ vs) h = out

    line_from_lock : (us : List ℕ) → Lock k before (line_from (move_state k before s) f us) (line_from s g us)
    line_from_lock [] = still_lock k after before a f g gl value.Null value.Null s (sym (move_null k.rho)) c (keeps_null k.keep)
    line_from_lock (u ∷ us) =
        let l : Line = line_of (u ∷ us) in
        made_text_lock k after before a (line_units l) (reading s l.rest) (λ n t. gives_value (value.Object n) t f) (λ n t. gives_value (value.Object n) t g) (reading_covered l.rest)
        (λ n t ct. still_lock k after before a f g gl (value.Object n) (value.Object n) t (sym (move_object k.rho n)) ct (keeps_object k.keep n))

    pub read_line_lock : (args : List Value) → IsTrue (keeps_values k.keep args) → Lock k before (read_line_form after (move_values k.rho args) (move_state k before s) f) (read_line_form before args s g)
    unfolding read_line_form
    read_line_lock [] h = line_from_lock s.input
    read_line_lock (v ∷ vs) h = out
