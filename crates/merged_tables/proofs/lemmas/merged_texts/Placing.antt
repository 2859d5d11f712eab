-- The places of texts: none at first, and one text more.
use Rattle.std.proofs.Common.{◌≡◌, ℕ, ◌+◌, ◌%◌, false, cond, List, [], ◌∷◌, ◌++◌, length, map, Option, Some, None, refl, sym, ap, ◌∙◌}
use Rattle.std.specs.Prelude.{bytes_eq, is_some, unwrap_or}
use Rattle.std.specs.List.{list_any}
use Rattle.std.specs.Map.{lookup}
use denote.Ref.{Bor}
use Rattle.rules.specs.file_layout.Interning.{place_among}
use Rattle.rules.specs.file_layout.Heaps.{user_item, user_place}
use Rattle.merged_tables.specs.declared.merged_texts.places.Places.{Places}
use Rattle.merged_tables.specs.merged_texts.Texts.{text_number, texts_in, token_in, ArePlaces}
use Rattle.merged_tables.proofs.lemmas.merged_texts.PlaceLemmas.{push_met, push_number}

first_number : (units : List ℕ) → text_number [] units ≡ 0x70000001
unfolding user_place place_among
first_number units = refl

pub places_none : (p : Places) → p.texts.items ≡ [] → p.tokens.entries ≡ [] → p.end ≡ 0x70000001 → ArePlaces p
places_none p texts tokens end = record {
  met = λ units.
      ap (λ (es : List (Bor (List ℕ) × ℕ)). is_some (lookup (λ (text : Bor (List ℕ)). bytes_eq units text.now) es)) tokens
      ∙ sym (ap (λ (ts : List (Bor (List ℕ))). list_any (bytes_eq units) (map (λ (text : Bor (List ℕ)). text.now) ts)) texts);
  number = λ units.
      ap (λ (es : List (Bor (List ℕ) × ℕ)). unwrap_or (lookup (λ (text : Bor (List ℕ)). bytes_eq units text.now) es) p.end) tokens ∙ end ∙ sym (first_number units)
      ∙ sym (ap (λ (ts : List (Bor (List ℕ))). text_number (map (λ (text : Bor (List ℕ)). text.now) ts) units) texts);
}

absent_or : (o : Option ℕ) (d : ℕ) → is_some o ≡ false → d ≡ unwrap_or o d
absent_or None d e = refl
absent_or (Some n) d e = cc

pub places_more : (old new : Places) (units : List ℕ) → ArePlaces old → is_some (token_in old units) ≡ false → texts_in new ≡ texts_in old ++ units ∷ []
    → ((q : List ℕ) → token_in new q ≡ cond (bytes_eq units q) (Some old.end) (token_in old q)) → new.end ≡ (old.end + length (user_item units)) % 4294967296 → ArePlaces new
places_more old new units places absent texts tokens end = record {
  met = λ q. ap is_some (tokens q) ∙ push_met (texts_in old) units q (token_in old q) old.end (places.met q) ∙ sym (ap (list_any (bytes_eq q)) texts);
  number = λ q.
      ap (λ (o : Option ℕ). unwrap_or o new.end) (tokens q)
      ∙ push_number (texts_in old) units q (token_in old q) old.end new.end (sym (places.met units) ∙ absent) (absent_or (token_in old units) old.end absent ∙ places.number units) (places.met q) (places.number q) end
      ∙ sym (ap (λ (ts : List (List ℕ)). text_number ts q) texts);
}
