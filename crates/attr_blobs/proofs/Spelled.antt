-- What is spelled so is read, and the spelling that is written is one of them.
use Rattle.std.proofs.Common.{◌≡◌, ℕ, zero, suc, ◌^◌, ◌<◌, min, ◌==◌, Bool, true, false, List, [], ◌∷◌, ◌++◌, length, Option, Some, None, Ok, refl, ap, ◌∙◌, arith, append_assoc, unwrap_or}
use Rattle.std.specs.List.{flat_map}
use Rattle.std.proofs.lemmas.Bool.{ne_eqb}
use Rattle.std.proofs.lemmas.List.Concat.{flat_map-cons}
use Rattle.byteorder.specs.Endian.{little_bytes}
use Rattle.il_base.specs.blob_grammar.Numbers.{shortest}
use Rattle.il_base.proofs.lemmas.blob_grammar.Numbers.{number_small, is_shortest}
use Rattle.attr_blobs.specs.declared.text.Width.{Width}
use Rattle.attr_blobs.specs.declared.text.Width.TheVariants.{Eight}
use Rattle.attr_blobs.specs.declared.kind.ParamKind.{ParamKind, out-ParamKind}
use Rattle.attr_blobs.specs.declared.kind.ParamKind.TheOpen.{ParamKind-F}
use Rattle.attr_blobs.specs.declared.kind.ParamKind.TheVariants as k
use Rattle.attr_blobs.specs.declared.value.Arg.{Arg}
use Rattle.attr_blobs.specs.declared.value.Arg.TheVariants as a
use Rattle.attr_blobs.specs.declared.value.NamedArg.{NamedArg}
use Rattle.attr_blobs.specs.declared.value.AttrValue.{AttrValue}
use Rattle.attr_blobs.specs.declared.value.EnumSize.{EnumSize}
use Rattle.attr_blobs.specs.Texts.{Read, Reader, ◌>>=◌, bytes_of, sized_at, text_at, text_or_null_at}
use Rattle.attr_blobs.specs.Values.{levels, width_of_element, width_of_enum, size_of_enum, kind_at, args_at, number_at, number_by, list_by, list_at, leaf_arg_by, boxed_at, arg_by, arg_at, fixed_at, named_by, named_at, nameds_at, prolog_at, value_at}
use Rattle.attr_blobs.specs.Grammar.{IsText, text, IsTextOrNull, null, given, IsKind, number_kind, text_kind, type_kind, enum_kind, boxed_kind, vector_kind, IsArg, AreArgs, none, more, number, enum, string, type_name, boxed, no_vector, vector, AreFixed, no_fixed, more_fixed, field_byte, IsNamed, named, AreNamed, no_named, more_named, IsAttribute, attribute}
use Rattle.attr_blobs.specs.Writing.{text_bytes, text_or_null_bytes, kind_bytes, width_in, element_in, vector_bytes, arg_bytes, fixed_bytes, named_bytes, attribute_bytes}
use Rattle.attr_blobs.proofs.Layers.{kind_prim, kind_text, kind_typ, kind_boxed, kind_enum, kind_list, arg_number, arg_text, arg_typ, arg_boxed, arg_vector}
use Rattle.attr_blobs.proofs.Told.{bind_is}
use Rattle.attr_blobs.proofs.NumberLaw.{sized_back}
use Rattle.attr_blobs.proofs.TextLaw.{text_again}
use Rattle.attr_blobs.proofs.KindLaw.{text_or_null_again, kind_again}
use Rattle.attr_blobs.proofs.ValueLaw.{named_of, value_of, body_at}

-- ---- reading

opened : (enums : List EnumSize) (room : ℕ) (kind : ParamKind) (o : ParamKind-F ParamKind) (bs : List ℕ) → out-ParamKind kind ≡ o → arg_at enums (suc room) kind bs ≡ arg_by enums room (arg_at enums room) o bs
unfolding arg_at
opened enums room kind o bs e = ap (λ (x : ParamKind-F ParamKind). arg_by enums room (arg_at enums room) x bs) e

closed : (enums : List EnumSize) (kind : ParamKind) (o : ParamKind-F ParamKind) (bs : List ℕ) → out-ParamKind kind ≡ o → arg_at enums zero kind bs ≡ leaf_arg_by o bs
unfolding arg_at
closed enums kind o bs e = ap (λ (x : ParamKind-F ParamKind). leaf_arg_by x bs) e

prim_at : (enums : List EnumSize) (room b : ℕ) (bs : List ℕ) → arg_at enums room (k.Prim b) bs ≡ number_by (width_of_element b) bs
prim_at enums zero b bs = closed enums (k.Prim b) (ParamKind-F.Prim b) bs (k.outs-Prim b)
prim_at enums (suc room) b bs = opened enums room (k.Prim b) (ParamKind-F.Prim b) bs (k.outs-Prim b)

enum_at : (enums : List EnumSize) (room : ℕ) (name : List ℕ) (size : ℕ) (bs : List ℕ) → arg_at enums room (k.Enum name size) bs ≡ number_at (width_of_enum size) bs
enum_at enums zero name size bs = closed enums (k.Enum name size) (ParamKind-F.Enum name size) bs (k.outs-Enum name size)
enum_at enums (suc room) name size bs = opened enums room (k.Enum name size) (ParamKind-F.Enum name size) bs (k.outs-Enum name size)

string_at : (enums : List EnumSize) (room : ℕ) (bs : List ℕ) → arg_at enums room k.Text bs ≡ leaf_arg_by ParamKind-F.Text bs
string_at enums zero bs = closed enums k.Text ParamKind-F.Text bs k.outs-Text
string_at enums (suc room) bs = opened enums room k.Text ParamKind-F.Text bs k.outs-Text

type_at : (enums : List EnumSize) (room : ℕ) (bs : List ℕ) → arg_at enums room k.Typ bs ≡ leaf_arg_by ParamKind-F.Typ bs
type_at enums zero bs = closed enums k.Typ ParamKind-F.Typ bs k.outs-Typ
type_at enums (suc room) bs = opened enums room k.Typ ParamKind-F.Typ bs k.outs-Typ

abbrev gave : Arg → List ℕ → Read (Arg × List ℕ)
gave x rest = Ok (x, rest)

abbrev gave_all : List Arg → List ℕ → Read (List Arg × List ℕ)
gave_all xs rest = Ok (xs, rest)

number_again : (width : Width) (n : ℕ) (rest : List ℕ) → n < 256 ^ bytes_of width → number_at width (little_bytes (bytes_of width) n ++ rest) ≡ Ok (a.Number n, rest)
number_again width n rest h =
    bind_is (sized_at (bytes_of width) (little_bytes (bytes_of width) n ++ rest)) (λ m. gave (a.Number m.0) m.1) (n, rest) (Ok (a.Number n, rest)) (sized_back (bytes_of width) n rest h) refl

boxed_again : (enums : List EnumSize) (room : ℕ) (kind : ParamKind) (x : Arg) (ks bs rest : List ℕ) → IsKind enums room kind ks → arg_at enums room kind (bs ++ rest) ≡ Ok (x, rest)
    → boxed_at enums room (arg_at enums room) ((ks ++ bs) ++ rest) ≡ Ok (a.Boxed kind x, rest)
boxed_again enums room kind x ks bs rest h e =
    bind_is (kind_at enums room ((ks ++ bs) ++ rest)) (λ y. arg_at enums room y.0 y.1 >>= λ z. gave (a.Boxed y.0 z.0) z.1) (kind, bs ++ rest) (Ok (a.Boxed kind x, rest))
    (ap (kind_at enums room) (append_assoc ks bs rest) ∙ kind_again enums room kind ks h (bs ++ rest))
    (bind_is (arg_at enums room kind (bs ++ rest)) (λ z. gave (a.Boxed kind z.0) z.1) (x, rest) (Ok (a.Boxed kind x, rest)) e refl)

null_again : (one : Reader Arg) (rest : List ℕ) → list_at one (255 ∷ 255 ∷ 255 ∷ 255 ∷ rest) ≡ Ok (a.List None, rest)
null_again one rest =
    bind_is (sized_at 4 (little_bytes 4 4294967295 ++ rest)) (λ count. list_by one count.0 count.1) (4294967295, rest) (Ok (a.List None, rest)) (sized_back 4 4294967295 rest (omega arith)) refl

vector_again : (one : Reader Arg) (xs : List Arg) (bs rest : List ℕ) → length xs < 4294967295 → args_at one (length xs) (bs ++ rest) ≡ Ok (xs, rest)
    → list_at one ((little_bytes 4 (length xs) ++ bs) ++ rest) ≡ Ok (a.List (Some xs), rest)
vector_again one xs bs rest few e =
    let not : (length xs == 4294967295) ≡ false = ne_eqb (length xs) 4294967295 (λ (x : length xs ≡ 4294967295). omega arith) in
    bind_is (sized_at 4 ((little_bytes 4 (length xs) ++ bs) ++ rest)) (λ count. list_by one count.0 count.1) (length xs, bs ++ rest) (Ok (a.List (Some xs), rest))
    (ap (sized_at 4) (append_assoc (little_bytes 4 (length xs)) bs rest) ∙ sized_back 4 (length xs) (bs ++ rest) (omega arith))
    (rw not (bind_is (args_at one (length xs) (bs ++ rest)) (λ ys. gave (a.List (Some ys.0)) ys.1) (xs, rest) (Ok (a.List (Some xs), rest)) e refl))

more_again : (one : Reader Arg) (x : Arg) (xs : List Arg) (front bs rest : List ℕ) → one (front ++ (bs ++ rest)) ≡ Ok (x, bs ++ rest) → args_at one (length xs) (bs ++ rest) ≡ Ok (xs, rest)
    → args_at one (suc (length xs)) ((front ++ bs) ++ rest) ≡ Ok (x ∷ xs, rest)
unfolding args_at
more_again one x xs front bs rest h e =
    bind_is (one ((front ++ bs) ++ rest)) (λ y. args_at one (length xs) y.1 >>= λ ys. gave_all (y.0 ∷ ys.0) ys.1) (x, bs ++ rest) (Ok (x ∷ xs, rest)) (ap one (append_assoc front bs rest) ∙ h)
    (bind_is (args_at one (length xs) (bs ++ rest)) (λ ys. gave_all (x ∷ ys.0) ys.1) (xs, rest) (Ok (x ∷ xs, rest)) e refl)

none_again : (one : Reader Arg) (rest : List ℕ) → args_at one 0 rest ≡ Ok ([], rest)
unfolding args_at
none_again one rest = refl

mutual
  pub arg_again : (enums : List EnumSize) (room : ℕ) (kind : ParamKind) (x : Arg) (bs : List ℕ) → IsArg enums room kind x bs → (rest : List ℕ) → arg_at enums room kind (bs ++ rest) ≡ Ok (x, rest)
  arg_again enums _ _ _ _ (number room b width n w h) rest =
      prim_at enums room b (little_bytes (bytes_of width) n ++ rest) ∙ ap (λ (o : Option Width). number_by o (little_bytes (bytes_of width) n ++ rest)) w ∙ number_again width n rest h
  arg_again enums _ _ _ _ (enum room name size n h) rest = enum_at enums room name size (little_bytes (bytes_of (width_of_enum size)) n ++ rest) ∙ number_again (width_of_enum size) n rest h
  arg_again enums _ _ _ _ (string room t bs h) rest =
      string_at enums room (bs ++ rest) ∙ bind_is (text_or_null_at (bs ++ rest)) (λ t. gave (a.Text t.0) t.1) (t, rest) (Ok (a.Text t, rest)) (text_or_null_again t bs h rest) refl
  arg_again enums _ _ _ _ (type_name room t bs h) rest =
      type_at enums room (bs ++ rest) ∙ bind_is (text_or_null_at (bs ++ rest)) (λ t. gave (a.Typ t.0) t.1) (t, rest) (Ok (a.Typ t, rest)) (text_or_null_again t bs h rest) refl
  arg_again enums _ _ _ _ (boxed room kind x ks bs h i) rest =
      opened enums room k.Boxed ParamKind-F.Boxed ((ks ++ bs) ++ rest) k.outs-Boxed ∙ boxed_again enums room kind x ks bs rest h (arg_again enums room kind x bs i rest)
  arg_again enums _ _ _ _ (no_vector room kind) rest = opened enums room (k.List kind) (ParamKind-F.List kind) (255 ∷ 255 ∷ 255 ∷ 255 ∷ rest) (k.outs-List kind) ∙ null_again (arg_at enums room kind) rest
  arg_again enums _ _ _ _ (vector room kind xs bs few h) rest =
      opened enums room (k.List kind) (ParamKind-F.List kind) ((little_bytes 4 (length xs) ++ bs) ++ rest) (k.outs-List kind)
      ∙ vector_again (arg_at enums room kind) xs bs rest few (args_again enums room kind xs bs h rest)

  pub args_again : (enums : List EnumSize) (room : ℕ) (kind : ParamKind) (xs : List Arg) (bs : List ℕ) → AreArgs enums room kind xs bs → (rest : List ℕ) → args_at (arg_at enums room kind) (length xs) (bs ++ rest) ≡ Ok (xs, rest)
  args_again enums _ _ _ _ (none room kind) rest = none_again (arg_at enums room kind) rest
  args_again enums _ _ _ _ (more room kind x xs front bs h i) rest =
      more_again (arg_at enums room kind) x xs front bs rest (arg_again enums room kind x front h (bs ++ rest)) (args_again enums room kind xs bs i rest)

fixed_step : (enums : List EnumSize) (kind : ParamKind) (kinds : List ParamKind) (x : Arg) (xs : List Arg) (front bs rest : List ℕ) → arg_at enums levels kind (front ++ (bs ++ rest)) ≡ Ok (x, bs ++ rest) → fixed_at enums kinds (bs ++ rest) ≡ Ok (xs, rest)
    → fixed_at enums (kind ∷ kinds) ((front ++ bs) ++ rest) ≡ Ok (x ∷ xs, rest)
unfolding fixed_at
fixed_step enums kind kinds x xs front bs rest h e =
    bind_is (arg_at enums levels kind ((front ++ bs) ++ rest)) (λ y. fixed_at enums kinds y.1 >>= λ ys. gave_all (y.0 ∷ ys.0) ys.1) (x, bs ++ rest) (Ok (x ∷ xs, rest))
    (ap (arg_at enums levels kind) (append_assoc front bs rest) ∙ h)
    (bind_is (fixed_at enums kinds (bs ++ rest)) (λ ys. gave_all (x ∷ ys.0) ys.1) (xs, rest) (Ok (x ∷ xs, rest)) e refl)

fixed_none : (enums : List EnumSize) (rest : List ℕ) → fixed_at enums [] rest ≡ Ok ([], rest)
unfolding fixed_at
fixed_none enums rest = refl

fixed_again : (enums : List EnumSize) (kinds : List ParamKind) (xs : List Arg) (bs : List ℕ) → AreFixed enums kinds xs bs → (rest : List ℕ) → fixed_at enums kinds (bs ++ rest) ≡ Ok (xs, rest)
fixed_again enums _ _ _ no_fixed rest = fixed_none enums rest
fixed_again enums _ _ _ (more_fixed kind kinds x xs front bs h i) rest =
    fixed_step enums kind kinds x xs front bs rest (arg_again enums levels kind x front h (bs ++ rest)) (fixed_again enums kinds xs bs i rest)

abbrev gave_named : NamedArg → List ℕ → Read (NamedArg × List ℕ)
gave_named x rest = Ok (x, rest)

field_at : (enums : List EnumSize) (field : Bool) (bs : List ℕ) → named_at enums (field_byte field ∷ bs) ≡ named_by enums field bs
unfolding named_at
field_at enums true bs = refl
field_at enums false bs = refl

named_again : (enums : List EnumSize) (x : NamedArg) (bs : List ℕ) → IsNamed enums x bs → (rest : List ℕ) → named_at enums (bs ++ rest) ≡ Ok (x, rest)
named_again enums _ _ (named field kind name x ks ts bs h i j) rest =
    let flat : (ks ++ ts ++ bs) ++ rest ≡ ks ++ (ts ++ (bs ++ rest)) = simp append_assoc in
    let made : NamedArg = named_of field kind name x in
    field_at enums field ((ks ++ ts ++ bs) ++ rest)
    ∙ bind_is (kind_at enums levels ((ks ++ ts ++ bs) ++ rest)) (λ y. text_at y.1 >>= λ t. arg_at enums levels y.0 t.1 >>= λ z. gave_named (named_of field y.0 t.0 z.0) z.1) (kind, ts ++ (bs ++ rest)) (Ok (made, rest))
    (ap (kind_at enums levels) flat ∙ kind_again enums levels kind ks h (ts ++ (bs ++ rest)))
    (bind_is (text_at (ts ++ (bs ++ rest))) (λ t. arg_at enums levels kind t.1 >>= λ z. gave_named (named_of field kind t.0 z.0) z.1) (name, bs ++ rest) (Ok (made, rest)) (text_again name ts i (bs ++ rest))
    (bind_is (arg_at enums levels kind (bs ++ rest)) (λ z. gave_named (named_of field kind name z.0) z.1) (x, rest) (Ok (made, rest)) (arg_again enums levels kind x bs j rest) refl))

abbrev gave_nameds : List NamedArg → List ℕ → Read (List NamedArg × List ℕ)
gave_nameds xs rest = Ok (xs, rest)

nameds_step : (enums : List EnumSize) (x : NamedArg) (xs : List NamedArg) (front bs rest : List ℕ) → named_at enums (front ++ (bs ++ rest)) ≡ Ok (x, bs ++ rest) → nameds_at (named_at enums) (length xs) (bs ++ rest) ≡ Ok (xs, rest)
    → nameds_at (named_at enums) (suc (length xs)) ((front ++ bs) ++ rest) ≡ Ok (x ∷ xs, rest)
unfolding nameds_at
nameds_step enums x xs front bs rest h e =
    bind_is (named_at enums ((front ++ bs) ++ rest)) (λ y. nameds_at (named_at enums) (length xs) y.1 >>= λ ys. gave_nameds (y.0 ∷ ys.0) ys.1) (x, bs ++ rest) (Ok (x ∷ xs, rest))
    (ap (named_at enums) (append_assoc front bs rest) ∙ h)
    (bind_is (nameds_at (named_at enums) (length xs) (bs ++ rest)) (λ ys. gave_nameds (x ∷ ys.0) ys.1) (xs, rest) (Ok (x ∷ xs, rest)) e refl)

nameds_none : (enums : List EnumSize) (rest : List ℕ) → nameds_at (named_at enums) 0 rest ≡ Ok ([], rest)
unfolding nameds_at
nameds_none enums rest = refl

nameds_again : (enums : List EnumSize) (xs : List NamedArg) (bs : List ℕ) → AreNamed enums xs bs → (rest : List ℕ) → nameds_at (named_at enums) (length xs) (bs ++ rest) ≡ Ok (xs, rest)
nameds_again enums _ _ no_named rest = nameds_none enums rest
nameds_again enums _ _ (more_named x xs front bs h i) rest = nameds_step enums x xs front bs rest (named_again enums x front h (bs ++ rest)) (nameds_again enums xs bs i rest)

abbrev gave_value : AttrValue → List ℕ → Read (AttrValue × List ℕ)
gave_value x rest = Ok (x, rest)

prolog_again : (enums : List EnumSize) (kinds : List ParamKind) (bs : List ℕ) → value_at enums kinds (1 ∷ 0 ∷ bs) ≡ body_at enums kinds bs
unfolding value_at prolog_at
prolog_again enums kinds bs = refl

pub value_again : (enums : List EnumSize) (kinds : List ParamKind) (x : AttrValue) (bs : List ℕ) → IsAttribute enums kinds x bs → (rest : List ℕ) → value_at enums kinds (bs ++ rest) ≡ Ok (x, rest)
value_again enums kinds _ _ (attribute fixed ns fs bs h few i) rest =
    let count : List ℕ = little_bytes 2 (length ns) in
    let flat : (fs ++ count ++ bs) ++ rest ≡ fs ++ (count ++ (bs ++ rest)) = append_assoc (fs ++ count) bs rest ∙ append_assoc fs count (bs ++ rest) in
    let made : AttrValue = value_of fixed ns in
    prolog_again enums kinds ((fs ++ count ++ bs) ++ rest)
    ∙ bind_is (fixed_at enums kinds ((fs ++ count ++ bs) ++ rest)) (λ y. sized_at 2 y.1 >>= λ n. nameds_at (named_at enums) n.0 n.1 >>= λ z. gave_value (value_of y.0 z.0) z.1) (fixed, count ++ (bs ++ rest)) (Ok (made, rest))
    (ap (fixed_at enums kinds) flat ∙ fixed_again enums kinds fixed fs h (count ++ (bs ++ rest)))
    (bind_is (sized_at 2 (count ++ (bs ++ rest))) (λ n. nameds_at (named_at enums) n.0 n.1 >>= λ z. gave_value (value_of fixed z.0) z.1) (length ns, bs ++ rest) (Ok (made, rest)) (sized_back 2 (length ns) (bs ++ rest) (omega arith))
    (bind_is (nameds_at (named_at enums) (length ns) (bs ++ rest)) (λ z. gave_value (value_of fixed z.0) z.1) (ns, rest) (Ok (made, rest)) (nameds_again enums ns bs i rest) refl))

-- ---- writing

text_written : (t bs : List ℕ) → IsText t bs → IsText t (text_bytes t)
unfolding text_bytes
text_written _ _ (text t ns h n) =
    let small = number_small (length t) ns n in
    let all : min (length t) 536870911 ≡ length t = omega arith in
    rw all (text t (shortest (length t)) h (is_shortest (length t) small))

text_or_null_written : (t : Option (List ℕ)) (bs : List ℕ) → IsTextOrNull t bs → IsTextOrNull t (text_or_null_bytes t)
text_or_null_written _ _ null = null
text_or_null_written _ _ (given t bs h) = given t (text_bytes t) (text_written t bs h)

kind_written : (enums : List EnumSize) (room : ℕ) (kind : ParamKind) (bs : List ℕ) → IsKind enums room kind bs → IsKind enums room kind (kind_bytes kind)
kind_written enums _ _ _ (number_kind room b h) = rw (kind_prim b) (number_kind room b h)
kind_written enums _ _ _ (text_kind room) = rw kind_text (text_kind room)
kind_written enums _ _ _ (type_kind room) = rw kind_typ (type_kind room)
kind_written enums _ _ _ (enum_kind room name bs h) = rw (kind_enum name (size_of_enum enums name)) (enum_kind room name (text_bytes name) (text_written name bs h))
kind_written enums _ _ _ (boxed_kind room) = rw kind_boxed (boxed_kind room)
kind_written enums _ _ _ (vector_kind room kind bs h) = rw (kind_list kind) (vector_kind room kind (kind_bytes kind) (kind_written enums room kind bs h))

prim_bytes : (b n : ℕ) (width : Width) → width_of_element b ≡ Some width → arg_bytes (a.Number n) (k.Prim b) ≡ little_bytes (bytes_of width) n
prim_bytes b n width w =
    arg_number n (k.Prim b) ∙ ap (λ (o : ParamKind-F ParamKind). little_bytes (bytes_of (width_in o)) n) (k.outs-Prim b) ∙ ap (λ (o : Option Width). little_bytes (bytes_of (unwrap_or o Eight)) n) w

enum_bytes : (name : List ℕ) (size n : ℕ) → arg_bytes (a.Number n) (k.Enum name size) ≡ little_bytes (bytes_of (width_of_enum size)) n
enum_bytes name size n = arg_number n (k.Enum name size) ∙ ap (λ (o : ParamKind-F ParamKind). little_bytes (bytes_of (width_in o)) n) (k.outs-Enum name size)

abbrev args_bytes : ParamKind → List Arg → List ℕ
args_bytes kind xs = flat_map (λ x. arg_bytes x kind) xs

list_bytes_of : (kind : ParamKind) (xs : Option (List Arg)) → arg_bytes (a.List xs) (k.List kind) ≡ vector_bytes xs kind
list_bytes_of kind xs = arg_vector xs (k.List kind) ∙ ap (λ (o : ParamKind-F ParamKind). vector_bytes xs (element_in (k.List kind) o)) (k.outs-List kind)

vector_bytes_of : (kind : ParamKind) (xs : List Arg) → length xs < 4294967295 → arg_bytes (a.List (Some xs)) (k.List kind) ≡ little_bytes 4 (length xs) ++ args_bytes kind xs
vector_bytes_of kind xs few =
    let all : min (length xs) 4294967294 ≡ length xs = omega arith in
    list_bytes_of kind (Some xs) ∙ ap (λ (n : ℕ). little_bytes 4 n ++ args_bytes kind xs) all

mutual
  arg_written : (enums : List EnumSize) (room : ℕ) (kind : ParamKind) (x : Arg) (bs : List ℕ) → IsArg enums room kind x bs → IsArg enums room kind x (arg_bytes x kind)
  arg_written enums _ _ _ _ (number room b width n w h) = rw (prim_bytes b n width w) (number room b width n w h)
  arg_written enums _ _ _ _ (enum room name size n h) = rw (enum_bytes name size n) (enum room name size n h)
  arg_written enums _ _ _ _ (string room t bs h) = rw (arg_text t k.Text) (string room t (text_or_null_bytes t) (text_or_null_written t bs h))
  arg_written enums _ _ _ _ (type_name room t bs h) = rw (arg_typ t k.Typ) (type_name room t (text_or_null_bytes t) (text_or_null_written t bs h))
  arg_written enums _ _ _ _ (boxed room kind x ks bs h i) = rw (arg_boxed kind x k.Boxed) (boxed room kind x (kind_bytes kind) (arg_bytes x kind) (kind_written enums room kind ks h) (arg_written enums room kind x bs i))
  arg_written enums _ _ _ _ (no_vector room kind) = rw (list_bytes_of kind None) (no_vector room kind)
  arg_written enums _ _ _ _ (vector room kind xs bs few h) = rw (vector_bytes_of kind xs few) (vector room kind xs (args_bytes kind xs) few (args_written enums room kind xs bs h))

  args_written : (enums : List EnumSize) (room : ℕ) (kind : ParamKind) (xs : List Arg) (bs : List ℕ) → AreArgs enums room kind xs bs → AreArgs enums room kind xs (args_bytes kind xs)
  args_written enums _ _ _ _ (none room kind) = none room kind
  args_written enums _ _ _ _ (more room kind x xs front bs h i) =
      rw (flat_map-cons (λ y. arg_bytes y kind) x xs) (more room kind x xs (arg_bytes x kind) (args_bytes kind xs) (arg_written enums room kind x front h) (args_written enums room kind xs bs i))

fixed_written : (enums : List EnumSize) (kinds : List ParamKind) (xs : List Arg) (bs : List ℕ) → AreFixed enums kinds xs bs → AreFixed enums kinds xs (fixed_bytes kinds xs)
unfolding fixed_bytes
fixed_written enums _ _ _ no_fixed = no_fixed
fixed_written enums _ _ _ (more_fixed kind kinds x xs front bs h i) =
    more_fixed kind kinds x xs (arg_bytes x kind) (fixed_bytes kinds xs) (arg_written enums levels kind x front h) (fixed_written enums kinds xs bs i)

named_written : (enums : List EnumSize) (x : NamedArg) (bs : List ℕ) → IsNamed enums x bs → IsNamed enums x (named_bytes x)
named_written enums _ _ (named field kind name x ks ts bs h i j) =
    named field kind name x (kind_bytes kind) (text_bytes name) (arg_bytes x kind) (kind_written enums levels kind ks h) (text_written name ts i) (arg_written enums levels kind x bs j)

nameds_written : (enums : List EnumSize) (xs : List NamedArg) (bs : List ℕ) → AreNamed enums xs bs → AreNamed enums xs (flat_map named_bytes xs)
nameds_written enums _ _ no_named = no_named
nameds_written enums _ _ (more_named x xs front bs h i) =
    rw (flat_map-cons (λ y. named_bytes y) x xs) (more_named x xs (named_bytes x) (flat_map named_bytes xs) (named_written enums x front h) (nameds_written enums xs bs i))

pub value_written : (enums : List EnumSize) (kinds : List ParamKind) (x : AttrValue) (bs : List ℕ) → IsAttribute enums kinds x bs → IsAttribute enums kinds x (attribute_bytes kinds x)
value_written enums kinds _ _ (attribute fixed ns fs bs h few i) =
    let all : min (length ns) 65535 ≡ length ns = omega arith in
    rw all (attribute fixed ns (fixed_bytes kinds fixed) (flat_map named_bytes ns) (fixed_written enums kinds fixed fs h) few (nameds_written enums ns bs i))
