-- The rules of reading, as a relation between what is left to read and the flags that it gives. Assumes nothing.
use Rattle.std.specs.Prelude.{◌≡◌, ℕ, List, [], ◌∷◌, ◌++◌, Some, None}
use Rattle.construct.specs.Made.{all_made}
use Rattle.flags.specs.Codes.{about}
use Rattle.flags.specs.Meaning.{Bytes, Meaning}
use Rattle.flags.specs.declared.kinds.Code.{Code}
use Rattle.tables.specs.Tables.{Options}
use Rattle.text.specs.Cuts.{cut_first}
use Rattle.text.specs.Shapes.{form_of, empty, single, double, long, short, plain}
use Rattle.reading.specs.Left.{Left, between, in_cluster, in_list, coming}

-- an argument that gives nothing and takes nothing: empty, `-`, or without a dash in front
pub data NoOption (a : Bytes) : Type 0 where
  is_empty : form_of a ≡ empty → NoOption a
  is_dash : form_of a ≡ single → NoOption a
  is_plain : form_of a ≡ plain → NoOption a

abbrev pub TakesOne : Code → Type 0
TakesOne c = (about c).flag ≡ None

abbrev pub Bare : Code → Meaning → Type 0
Bare c flag = (about c).flag ≡ Some flag

abbrev pub Named : Bytes → Bytes → Bytes → Type 0
Named body name argument = cut_first 61 body ≡ Some (name, argument)

-- the name is all of it
abbrev pub Unequipped : Bytes → Type 0
Unequipped body = cut_first 61 body ≡ None

module _ (o : Options) where
  pub data Gives : Left → List Meaning → Type 0 where
    at_the_end : Gives (between []) []
    -- `--` ends the reading
    stops : (a : Bytes) (args : List Bytes) → form_of a ≡ double → Gives (between (a ∷ args)) []
    passes : (a : Bytes) (args : List Bytes) (flags : List Meaning) → NoOption a → Gives (between args) flags → Gives (between (a ∷ args)) flags
    -- `--name` and `--name=arg`
    unknown_name : (a body : Bytes) (args : List Bytes) (flags : List Meaning) → form_of a ≡ long body → Unequipped body → o.long body ≡ None → Gives (between args) flags → Gives (between (a ∷ args)) flags
    unknown_named : (a body name arg : Bytes) (args : List Bytes) (flags : List Meaning) → form_of a ≡ long body → Named body name arg → o.long name ≡ None → Gives (between args) flags → Gives (between (a ∷ args)) flags
    bare_name : (a body : Bytes) (c : Code) (flag : Meaning) (args : List Bytes) (flags : List Meaning) → form_of a ≡ long body → Unequipped body → o.long body ≡ Some c → Bare c flag → Gives (between args) flags → Gives (between (a ∷ args)) (flag ∷ flags)
    bare_equipped : (a body name arg : Bytes) (c : Code) (flag : Meaning) (args : List Bytes) (flags : List Meaning) → form_of a ≡ long body → Named body name arg → o.long name ≡ Some c → Bare c flag → Gives (between args) flags → Gives (between (a ∷ args)) flags
    equipped : (a body name arg : Bytes) (c : Code) (args : List Bytes) (flags : List Meaning) → form_of a ≡ long body → Named body name arg → o.long name ≡ Some c → TakesOne c → Gives (between args) flags → Gives (between (a ∷ args)) (all_made c arg ++ flags)
    takes_next : (a body : Bytes) (c : Code) (next : Bytes) (args : List Bytes) (flags : List Meaning) → form_of a ≡ long body → Unequipped body → o.long body ≡ Some c → TakesOne c → Gives (between args) flags → Gives (between (a ∷ next ∷ args)) (all_made c next ++ flags)
    takes_empty : (a body : Bytes) (c : Code) → form_of a ≡ long body → Unequipped body → o.long body ≡ Some c → TakesOne c → Gives (between (a ∷ [])) (all_made c [])
    -- `-letters`, read in turn
    cluster : (a letters : Bytes) (args : List Bytes) (flags : List Meaning) → form_of a ≡ short letters → Gives (in_cluster letters args) flags → Gives (between (a ∷ args)) flags
    no_letter_left : (args : List Bytes) (flags : List Meaning) → Gives (between args) flags → Gives (in_cluster [] args) flags
    unknown_letter : (b : ℕ) (bs : Bytes) (args : List Bytes) (flags : List Meaning) → o.short b ≡ None → Gives (between args) flags → Gives (in_cluster (b ∷ bs) args) flags
    bare_letter : (b : ℕ) (bs : Bytes) (c : Code) (flag : Meaning) (args : List Bytes) (flags : List Meaning) → o.short b ≡ Some c → Bare c flag → Gives (in_cluster bs args) flags → Gives (in_cluster (b ∷ bs) args) (flag ∷ flags)
    takes_rest : (b x : ℕ) (bs : Bytes) (c : Code) (args : List Bytes) (flags : List Meaning) → o.short b ≡ Some c → TakesOne c → Gives (between args) flags → Gives (in_cluster (b ∷ x ∷ bs) args) (all_made c (x ∷ bs) ++ flags)
    letter_takes_next : (b : ℕ) (c : Code) (next : Bytes) (args : List Bytes) (flags : List Meaning) → o.short b ≡ Some c → TakesOne c → Gives (between args) flags → Gives (in_cluster (b ∷ []) (next ∷ args)) (all_made c next ++ flags)
    letter_lacks_one : (b : ℕ) (c : Code) → o.short b ≡ Some c → TakesOne c → Gives (in_cluster (b ∷ []) []) []
    -- what is left of a list
    words_left : (c : Code) (rest : Bytes) (args : List Bytes) (flags : List Meaning) → Gives (between args) flags → Gives (in_list c rest args) (all_made c rest ++ flags)

-- The rules give a list of flags exactly when that list comes.
pub record ByRules : Type 0 where
  pub sound : (o : Options) (l : Left) (flags : List Meaning) → Gives o l flags → coming o l ≡ flags
  pub complete : (o : Options) (l : Left) (flags : List Meaning) → coming o l ≡ flags → Gives o l flags
