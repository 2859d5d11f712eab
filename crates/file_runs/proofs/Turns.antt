-- A run in turns: what was printed so far, and what is still to come.
use Rattle.std.proofs.Common.{◌≡◌, ℕ, zero, suc, ◌+◌, ◌-◌, ◌<◌, ◌≤◌, List, [], ◌∷◌, ◌++◌, take, length, Option, Some, None, Ok, Err, refl, sym, ap, subst, ◌∙◌, arith, append_assoc}
use Rattle.std.proofs.lemmas.List.{append-nil}
use Rattle.std.proofs.Math.Seq.{take-length}
use Rattle.std.specs.Io.KnownBytes.{Appends}
use Rattle.il_outside.specs.Streams.{SinkState, AppendsPrefix}
use Rattle.il_outside.specs.Faults.{Rose}
use Rattle.il_base.specs.declared.cil_values.state.State.{State}
use Rattle.il_base.specs.declared.cil_values.end.End.{End}
use Rattle.rules.specs.step_rules.Queries.{Queries}
use Rattle.rules.specs.step_rules.Next.{Next, went, over}
use Rattle.rules.specs.step_rules.Step.{step}
use Rattle.rules.specs.step_rules.Run.{Outcome, printed_before, after, run}
use Rattle.machine_words.specs.declared.cil_words.step_out.StepOut.TheVariants as out
use Rattle.file_runs.specs.declared.fault.RunFault.{RunFault}
use Rattle.file_runs.specs.declared.fault.RunFault.TheVariants.{Write, NoMemory}
use Rattle.file_runs.specs.Steps.{RunsTo, TurnsTo}

-- known bytes that grew twice
grew_twice : (a b c : Option (List ℕ)) (x y : List ℕ) → Appends a b x → Appends b c y → Appends a c (x ++ y)
grew_twice None b c x y p q = tt
grew_twice (Some xs) None c x y p q = absurd p
grew_twice (Some xs) (Some ys) None x y p q = absurd q
grew_twice (Some xs) (Some ys) (Some zs) x y p q = q ∙ ap (λ (t : List ℕ). t ++ y) p ∙ append_assoc xs x y

-- a prefix of a front is a prefix of the whole
take_nothing : (k : ℕ) → take {A = ℕ} k [] ≡ []
take_nothing zero = refl
take_nothing (suc k) = refl

front_of : (k : ℕ) (bytes rest : List ℕ) → (n : ℕ) × (take k bytes ≡ take n (bytes ++ rest))
front_of k [] rest = (0, take_nothing k)
front_of zero (b ∷ bytes) rest = (0, refl)
front_of (suc k) (b ∷ bytes) rest = let later = front_of k bytes rest in (suc later.0, ap (λ (t : List ℕ). b ∷ t) later.1)

behind : (done : List ℕ) (k : ℕ) (bytes rest : List ℕ) → (n : ℕ) × (done ++ take k bytes ≡ take n (done ++ (bytes ++ rest)))
behind [] k bytes rest = front_of k bytes rest
behind (d ∷ done) k bytes rest = let later = behind done k bytes rest in (suc later.0, ap (λ (t : List ℕ). d ∷ t) later.1)

-- what was printed before the rest of a run
pub record Left (total : Outcome) (old now : SinkState) (rest : Outcome) : Type 0 where
  pub done : List ℕ
  pub held : Appends old.held now.held done
  pub faults : now.faults ≡ old.faults
  pub same : printed_before done rest ≡ total

pub nothing_yet : (total : Outcome) (s : SinkState) → Appends s.held s.held [] → Left total s s total
nothing_yet total s h = record { done = []; held = h; faults = refl; same = refl }

pub grew_by_nothing : (held : Option (List ℕ)) → Appends held held []
grew_by_nothing None = tt
grew_by_nothing (Some xs) = sym (append-nil xs)

regroup : (done bytes : List ℕ) (o : Outcome) → printed_before (done ++ bytes) o ≡ printed_before done (printed_before bytes o)
regroup done bytes o = ap (λ (t : List ℕ). record { output = t; end = o.end }) (append_assoc done bytes o.output)

-- the rest of a run after some steps that print nothing, by its next step
pub run_next : (q : Queries) (n made : ℕ) (s t : State) → 0 < n → made ≤ n - 1 → ((m : ℕ) → run q (made + m) s ≡ run q m t) → run q n s ≡ after (step q t) (run q (n - made - 1))
unfolding run
run_next q n made s t some within quiet =
    let whole : n ≡ made + suc (n - made - 1) = omega arith in
    ap (λ (k : ℕ). run q k s) whole ∙ quiet (suc (n - made - 1))

pub run_none : (q : Queries) (n : ℕ) (s : State) → n ≤ 0 → run q n s ≡ record { output = []; end = None }
unfolding run
run_none q n s le = let k : n ≡ 0 = omega arith in rw k refl

-- a turn that goes on
went_on : (total : Outcome) (old now new : SinkState) (s t : State) (bytes : List ℕ) (f : State → Outcome) → Left total old now (printed_before bytes (f s))
    → (t ≡ s) × Appends now.held new.held bytes × (new.faults ≡ now.faults) → Left total old new (f t)
went_on total old now new s t bytes f left turn =
    subst (λ (u : State). Left total old new (f u)) (sym turn.0)
    (record { done = left.done ++ bytes; held = grew_twice old.held now.held new.held left.done bytes left.held turn.1; faults = turn.2 ∙ left.faults; same = regroup left.done bytes (f s) ∙ left.same })

pub turn_goes_on : (total : Outcome) (old now new : SinkState) (next : Next) (t : State) (f : State → Outcome) → Left total old now (after next f) → TurnsTo next t now new (Ok out.Went) → Left total old new (f t)
turn_goes_on total old now new (went s bytes) t f left turn = went_on total old now new s t bytes f left turn
turn_goes_on total old now new (over e) t f left turn = absurd turn

ended : (total : Outcome) (old now new : SinkState) (e d : End) → Left total old now (record { output = []; end = Some e }) → (d ≡ e) × Appends now.held new.held [] × (new.faults ≡ now.faults)
    → RunsTo total old new (Ok (Some d))
ended total old now new e d left turn = (
  ap (λ (x : End). Some x) turn.0 ∙ ap (λ (o : Outcome). o.end) left.same,
  subst (λ (o : Outcome). Appends old.held new.held o.output) left.same (grew_twice old.held now.held new.held left.done [] left.held turn.1),
  turn.2 ∙ left.faults,
)

pub turn_ends : (total : Outcome) (old now new : SinkState) (next : Next) (t : State) (d : End) (f : State → Outcome) → Left total old now (after next f) → TurnsTo next t now new (Ok (out.Over d)) → RunsTo total old new (Ok (Some d))
turn_ends total old now new (went s bytes) t d f left turn = absurd turn
turn_ends total old now new (over e) t d f left turn = ended total old now new e d left turn

-- a failing write leaves a prefix of what the run prints
cut : (total : Outcome) (old now new : SinkState) (bytes : List ℕ) (o : Outcome) → Left total old now (printed_before bytes o) → AppendsPrefix now.held new.held bytes → AppendsPrefix old.held new.held total.output
cut total old now new bytes o left part =
    let whole = behind left.done part.0 bytes o.output in
    let grown = grew_twice old.held now.held new.held left.done (take part.0 bytes) left.held part.1 in
    subst (λ (p : Outcome). AppendsPrefix old.held new.held p.output) left.same (whole.0, subst (λ (t : List ℕ). Appends old.held new.held t) whole.1 grown)

stands : (total : Outcome) (old now new : SinkState) (o : Outcome) → Left total old now o → Appends now.held new.held [] → AppendsPrefix old.held new.held total.output
stands total old now new o left same =
    cut total old now new [] o (record { done = left.done; held = left.held; faults = left.faults; same = left.same }) (0, same)

rose_from : (a b c : ℕ) → b ≡ a → Rose b c → Rose a c
rose_from a b c e r = subst (λ (x : ℕ). Rose x c) e r

pub turn_fails : (total : Outcome) (old now new : SinkState) (next : Next) (t : State) (fault : RunFault) (f : State → Outcome) → Left total old now (after next f) → TurnsTo next t now new (Err fault) → RunsTo total old new (Err fault)
turn_fails total old now new (went s bytes) t Write f left turn = (cut total old now new bytes (f s) left turn.0, rose_from old.faults now.faults new.faults left.faults turn.1)
turn_fails total old now new (went s bytes) t NoMemory f left turn = (cut total old now new bytes (f s) left turn.0, turn.1 ∙ left.faults)
turn_fails total old now new (over e) t Write f left turn = absurd turn
turn_fails total old now new (over e) t NoMemory f left turn = (stands total old now new (record { output = []; end = Some e }) left turn.0, turn.1 ∙ left.faults)

-- all turns went on
pub all_went : (total : Outcome) (old now : SinkState) (rest : Outcome) → rest ≡ record { output = []; end = None } → Left total old now rest → RunsTo total old now (Ok None)
all_went total old now rest none left =
    let same = ap (λ (o : Outcome). printed_before left.done o) (sym none) ∙ left.same in (
      ap (λ (o : Outcome). o.end) same,
      subst (λ (o : Outcome). Appends old.held now.held o.output) same (subst (λ (t : List ℕ). Appends old.held now.held t) (sym (append-nil left.done)) left.held),
      left.faults,
    )

-- all that a run prints is a prefix of it
pub whole_is_prefix : (o : Outcome) (old new : SinkState) → Appends old.held new.held o.output → AppendsPrefix old.held new.held o.output
whole_is_prefix o old new grown = (length o.output, subst (λ (t : List ℕ). Appends old.held new.held t) (sym (take-length o.output)) grown)

-- memory ran out before a step
pub runs_out : (total : Outcome) (old now : SinkState) (rest : Outcome) → Left total old now rest → RunsTo total old now (Err NoMemory)
runs_out total old now rest left = (stands total old now now rest left (grew_by_nothing now.held), left.faults)
