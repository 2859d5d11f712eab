-- The grammar of descriptors over their tokens: which element stands in which, which attributes it takes and needs, and what
-- it adds to the roots. A state is what was read so far.
use Rattle.std.specs.Prelude.{ℕ, Bool, true, false, not, ◌==◌, ◌&&◌, List, [], ◌∷◌, ◌++◌, take, Option, Some, None, is_some, unwrap_or, codes, bytes_eq, find, if◌then◌else◌}
use Rattle.std.specs.Option.{option_map}
use Rattle.descriptor_file.specs.declared.token.Element.{Element}
use Rattle.descriptor_file.specs.declared.token.Element.TheVariants as element
use Rattle.descriptor_file.specs.declared.token.Attribute.{Attribute}
use Rattle.descriptor_file.specs.declared.token.Attribute.TheVariants as attribute
use Rattle.descriptor_file.specs.declared.token.Token.{Token}
use Rattle.descriptor_file.specs.declared.token.Token.TheVariants as token
use Rattle.descriptor_file.specs.declared.root.Root.{Root}
use Rattle.descriptor_file.specs.declared.root.RootMember.{RootMember}
use Rattle.descriptor_file.specs.declared.root.member.TheConstants as member
use Rattle.descriptor_file.specs.declared.root.preserve.TheConstants as preserve
use Rattle.descriptor_file.specs.declared.state.Given.{Given}
use Rattle.descriptor_file.specs.declared.state.Place.{Place}
use Rattle.descriptor_file.specs.declared.state.Place.TheVariants as place
use Rattle.descriptor_file.specs.declared.state.Spot.{Spot}
use Rattle.descriptor_file.specs.declared.state.Spot.TheVariants as spot
use Rattle.descriptor_file.specs.declared.state.State.{State}
use Rattle.descriptor_file.specs.Values.{up_to}

-- which elements stand in which: one `linker` in the file, then `assembly`, `type`, and members
abbrev pub holds : Place → Element → Bool
holds place.Before element.Linker = true
holds (place.In element.Linker) element.Assembly = true
holds (place.In element.Assembly) element.Type = true
holds (place.In element.Type) element.Method = true
holds (place.In element.Type) element.Field = true
holds (place.In element.Type) element.Property = true
holds (place.In element.Type) element.Event = true
holds _ _ = false

abbrev pub element_number : Element → ℕ
element_number element.Linker = 0
element_number element.Assembly = 1
element_number element.Type = 2
element_number element.Method = 3
element_number element.Field = 4
element_number element.Property = 5
element_number element.Event = 6

-- an end tag closes the innermost element
abbrev pub closes : Place → Element → Bool
closes (place.In e) f = element_number e == element_number f
closes _ f = false

-- which attributes an element takes
abbrev pub takes : Element → Attribute → Bool
takes element.Assembly attribute.FullName = true
takes element.Type attribute.FullName = true
takes element.Type attribute.Preserve = true
takes element.Type attribute.Required = true
takes element.Method attribute.Name = true
takes element.Method attribute.Signature = true
takes element.Field attribute.Name = true
takes element.Field attribute.Signature = true
takes element.Property attribute.Name = true
takes element.Event attribute.Name = true
takes _ _ = false

abbrev pub attribute_number : Attribute → ℕ
attribute_number attribute.FullName = 0
attribute_number attribute.Preserve = 1
attribute_number attribute.Required = 2
attribute_number attribute.Name = 3
attribute_number attribute.Signature = 4

abbrev pub is_attribute : Attribute → Attribute → Bool
is_attribute a b = attribute_number a == attribute_number b

abbrev pub gives : Attribute → Given → Bool
gives a g = is_attribute a g.attribute

-- the text of an attribute, if it is given
abbrev pub given_text : Attribute → List Given → Option (List ℕ)
given_text a given = option_map (λ g. g.text) (find (gives a) given)

abbrev pub is_given : Attribute → List Given → Bool
is_given a given = is_some (given_text a given)

abbrev pub text_given : Attribute → List Given → List ℕ
text_given a given = unwrap_or (given_text a given) []

-- what an element needs: `method` and `field` exactly one of name and signature
abbrev pub differ : Bool → Bool → Bool
differ true b = not b
differ false b = b

abbrev pub is_complete : Element → List Given → Bool
is_complete element.Linker given = true
is_complete element.Assembly given = is_given attribute.FullName given
is_complete element.Type given = is_given attribute.FullName given
is_complete element.Method given = differ (is_given attribute.Name given) (is_given attribute.Signature given)
is_complete element.Field given = differ (is_given attribute.Name given) (is_given attribute.Signature given)
is_complete element.Property given = is_given attribute.Name given
is_complete element.Event given = is_given attribute.Name given

-- ---- what elements add

-- the part of an assembly's full name before the first comma
abbrev pub simple_name : List ℕ → List ℕ
simple_name text = take (up_to 44 text) text

unfoldable pub preserve_of : List ℕ → ℕ
preserve_of text =
    if bytes_eq text (codes "all") then preserve.ALL
    else if bytes_eq text (codes "fields") then preserve.FIELDS
    else if bytes_eq text (codes "methods") then preserve.METHODS
    else preserve.NOTHING

-- required="true" where nothing is said
abbrev pub is_required : List Given → Bool
is_required given = not (bytes_eq (text_given attribute.Required given) (codes "false"))

-- all where nothing is said, as long as no member is listed
abbrev pub preserved : Option (List ℕ) → ℕ
preserved None = preserve.ALL
preserved (Some text) = preserve_of text

abbrev pub type_root : List ℕ → ℕ → List Given → Root
type_root asm at given = record {
  asm = asm;
  typ = Some (text_given attribute.FullName given);
  required = is_required given;
  preserve = preserved (given_text attribute.Preserve given);
  members = [];
  at = at;
  source = 0;
}

abbrev pub assembly_root : List ℕ → ℕ → Root
assembly_root asm at = record { asm = asm; typ = None; required = true; preserve = preserve.ALL; members = []; at = at; source = 0 }

abbrev pub kind_of : Element → ℕ
kind_of element.Method = member.METHOD
kind_of element.Field = member.FIELD
kind_of element.Property = member.PROPERTY
kind_of element.Event = member.EVENT
kind_of _ = 0

-- the name, or the signature where that is given
abbrev pub member_by : ℕ → ℕ → Option (List ℕ) → List ℕ → RootMember
member_by kind at None name = record { kind = kind; by_signature = false; text = name; at = at }
member_by kind at (Some signature) name = record { kind = kind; by_signature = true; text = signature; at = at }

abbrev pub member_of : Element → ℕ → List Given → RootMember
member_of e at given = member_by (kind_of e) at (given_text attribute.Signature given) (text_given attribute.Name given)

-- a type with one member more: where nothing is said of `preserve`, the listed members alone are kept
abbrev pub with_member : Bool → RootMember → Root → Root
with_member preserves m root = record root { members = root.members ++ m ∷ []; preserve = (if preserves then root.preserve else preserve.NOTHING) }

-- ---- states

-- a member begins whose `<` is at a place
abbrev pub member_begun : Element → ℕ → State → State
member_begun e at s = record s { place = place.In e; spot = spot.Content; typ = option_map (with_member s.preserves (member_of e at s.given)) s.typ }

-- an element begins whose `<` is at a place
unfoldable pub begun : Element → ℕ → State → State
begun element.Linker at s = record s { place = place.In element.Linker; spot = spot.Content }
begun element.Assembly at s = record s {
  place = place.In element.Assembly;
  spot = spot.Content;
  asm = simple_name (text_given attribute.FullName s.given);
  asm_at = at;
  has_types = false;
}
begun element.Type at s = record s {
  place = place.In element.Type;
  spot = spot.Content;
  has_types = true;
  preserves = is_given attribute.Preserve s.given;
  typ = Some (type_root s.asm at s.given);
}
begun element.Method at s = member_begun element.Method at s
begun element.Field at s = member_begun element.Field at s
begun element.Property at s = member_begun element.Property at s
begun element.Event at s = member_begun element.Event at s

-- roots with one more, if there is one
abbrev pub with_root : Option Root → List Root → List Root
with_root None roots = roots
with_root (Some root) roots = roots ++ root ∷ []

-- an assembly without types keeps all
abbrev pub assembly_ended : State → State
assembly_ended s = record s {
  place = place.In element.Linker;
  spot = spot.Content;
  roots = (if s.has_types then s.roots else s.roots ++ assembly_root s.asm s.asm_at ∷ []);
}

abbrev pub type_ended : State → State
type_ended s = record s { place = place.In element.Assembly; spot = spot.Content; roots = with_root s.typ s.roots; typ = None }

-- the element at a place ends
unfoldable pub ended : Place → State → State
ended (place.In element.Linker) s = record s { place = place.After; spot = spot.Content }
ended (place.In element.Assembly) s = assembly_ended s
ended (place.In element.Type) s = type_ended s
ended (place.In e) s = record s { place = place.In element.Type; spot = spot.Content }
ended _ s = s

abbrev pub with_given : Attribute → List ℕ → Spot → State → Option State
with_given a text (spot.Starts e at) s =
    if takes e a && not (is_given a s.given) then Some (record s { given = s.given ++ record { attribute = a; text = text } ∷ [] }) else None
with_given a text _ s = None

-- the end of a start tag: `/>` also ends the element
abbrev pub start_ended : Bool → Element → ℕ → State → Option State
start_ended empty e at s =
    if is_complete e s.given then Some (if empty then ended (place.In e) (begun e at s) else begun e at s) else None

-- the end of a tag, `/>` where it is empty
abbrev pub tag_ended : Bool → Spot → State → Option State
tag_ended empty (spot.Starts e at) s = start_ended empty e at s
tag_ended empty spot.Stops s = if empty then None else Some (ended s.place s)
tag_ended empty spot.Content s = None

abbrev pub started : Element → ℕ → State → Option State
started e at s = if holds s.place e then Some (record s { spot = spot.Starts e at; given = [] }) else None

abbrev pub stopped : Element → State → Option State
stopped e s = if closes s.place e then Some (record s { spot = spot.Stops }) else None

-- the state after a token that begins at a place; None where the token isn't allowed there
unfoldable pub step : ℕ → Token → State → Option State
step at (token.Start e) s = started e at s
step at (token.Stop e) s = stopped e s
step at (token.Value a text) s = with_given a text s.spot s
step at token.End s = tag_ended false s.spot s
step at token.EmptyEnd s = tag_ended true s.spot s
step at token.Comment s = Some s

abbrev pub first_state : State
first_state = record {
  place = place.Before;
  spot = spot.Content;
  given = [];
  asm = [];
  asm_at = 0;
  has_types = false;
  preserves = false;
  typ = None;
  roots = [];
}

-- what a call leaves that says whether a token was allowed
abbrev pub if_allowed : Bool → State → Option State
if_allowed true s = Some s
if_allowed false s = None

-- the file can end: the `linker` element was closed
abbrev pub is_done : Place → Spot → Bool
is_done place.After spot.Content = true
is_done _ _ = false
