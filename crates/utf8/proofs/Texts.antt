-- Well-formed UTF-8 is what encodes scalar values: the table and the arithmetic of the encoding agree. Assumes nothing.
use Rattle.std.proofs.Common.{◌≡◌, ℕ, ◌+◌, ◌-◌, ◌*◌, ◌/◌, ◌<◌, ◌≤◌, true, false, leb, ◌≢◌, ◌⊎◌, List, [], ◌∷◌, IsUtf8, Decides, sym, refl, ◌∙◌, subst, inl, inr, ⊎_elim, arith}
use lib.Utf8.{scalar, scalars, encode, encodes, next, scalar_cases}
use Rattle.std.specs.List.{flat_map, AllByRecursion}
use Rattle.std.proofs.lemmas.Bool.{and_parts, both_ways, cases_lt, le-ltb, leb-true, lt-ltb, or_cases}
use Rattle.std.proofs.lemmas.Str.{encode_ascii, IsUtf8-append as text-append, IsUtf8-encode, IsUtf8-nil}
use Rattle.std.proofs.lemmas.Bool.Decides.{nat_tests}
use Rattle.utf8.specs.Utf8.{Range, within, table, fits, some_row_fits, Character, utf8}
use Rattle.utf8.proofs.Laws.{ascii_character, character_length, utf8_append, utf8_character, utf8_characters}

-- The rows of the table by the number of bytes.

record Two (a b : ℕ) : Type 0 where
  lead : (194 ≤ a) × (a ≤ 223)
  second : (128 ≤ b) × (b ≤ 191)

record Three (a b d : ℕ) : Type 0 where
  lead : (224 ≤ a) × (a ≤ 239)
  second : (128 ≤ b) × (b ≤ 191)
  third : (128 ≤ d) × (d ≤ 191)
  not_shorter : 224 * 64 + 160 ≤ a * 64 + b
  no_surrogate : a ≡ 237 → b ≤ 159

record Four (a b d e : ℕ) : Type 0 where
  lead : (240 ≤ a) × (a ≤ 244)
  second : (128 ≤ b) × (b ≤ 191)
  third : (128 ≤ d) × (d ≤ 191)
  fourth : (128 ≤ e) × (e ≤ 191)
  not_shorter : 240 * 64 + 144 ≤ a * 64 + b
  not_above : a * 64 + b ≤ 244 * 64 + 143

-- what a row says of its bytes, as orders
abbrev Inside : List Range → List ℕ → Type 0
Inside [] [] = Unit {0}
Inside [] (b ∷ bs) = ⊥
Inside (r ∷ row) [] = ⊥
Inside (r ∷ row) (b ∷ bs) = (r.first ≤ b) × (b ≤ r.last) × Inside row bs

inside : (row : List Range) (bs : List ℕ) → fits row bs ≡ true → Inside row bs
inside [] [] h = tt
inside [] (b ∷ bs) h = both_ways false refl h
inside (r ∷ row) [] h = both_ways false refl h
inside (r ∷ row) (b ∷ bs) h =
    let p = and_parts (within r b) (fits row bs) h in
    let q = and_parts (leb r.first b) (leb b r.last) p.0 in
    (leb-true r.first b q.0, leb-true b r.last q.1, inside row bs p.1)

abbrev InsideSome : List (List Range) → List ℕ → Type 0
InsideSome [] bs = ⊥
InsideSome (row ∷ rows) bs = Inside row bs ⊎ InsideSome rows bs

inside_some : (rows : List (List Range)) (bs : List ℕ) → some_row_fits rows bs ≡ true → InsideSome rows bs
inside_some [] bs h = both_ways false refl h
inside_some (row ∷ rows) bs h =
    ⊎_elim (λ f. inl (inside row bs f)) (λ f. inr (inside_some rows bs f)) (or_cases (fits row bs) (some_row_fits rows bs) h)

one_from : (a : ℕ) → Character (a ∷ []) → a < 128
one_from a h = let i = inside_some table (a ∷ []) h in omega arith

two_character : (a b : ℕ) → Two a b → Character (a ∷ b ∷ [])
two_character a b h = grind (arith, nat_tests)

two_from : (a b : ℕ) → Character (a ∷ b ∷ []) → Two a b
two_from a b h = let i = inside_some table (a ∷ b ∷ []) h in omega arith

three_character : (a b d : ℕ) → Three a b d → Character (a ∷ b ∷ d ∷ [])
three_character a b d h = grind (arith, nat_tests)

three_from : (a b d : ℕ) → Character (a ∷ b ∷ d ∷ []) → Three a b d
three_from a b d h = let i = inside_some table (a ∷ b ∷ d ∷ []) h in omega arith

four_character : (a b d e : ℕ) → Four a b d e → Character (a ∷ b ∷ d ∷ e ∷ [])
four_character a b d e h = grind (arith, nat_tests)

four_from : (a b d e : ℕ) → Character (a ∷ b ∷ d ∷ e ∷ []) → Four a b d e
four_from a b d e h = let i = inside_some table (a ∷ b ∷ d ∷ e ∷ []) h in omega arith

-- The encoding by the number of bytes.

encode_two : (c : ℕ) → 128 ≤ c → c < 2048 → encode c ≡ (192 + c / 64) ∷ next c ∷ []
unfolding encode
encode_two c l h = rw (le-ltb c 128 l, lt-ltb c 2048 h)

encode_three : (c : ℕ) → 2048 ≤ c → c < 65536 → encode c ≡ (224 + c / 4096) ∷ next (c / 64) ∷ next c ∷ []
unfolding encode
encode_three c l h = rw (le-ltb c 128 (omega arith), le-ltb c 2048 l, lt-ltb c 65536 h)

encode_four : (c : ℕ) → 65536 ≤ c → encode c ≡ (240 + c / 262144) ∷ next (c / 4096) ∷ next (c / 64) ∷ next c ∷ []
unfolding encode
encode_four c l = rw (le-ltb c 128 (omega arith), le-ltb c 2048 (omega arith), le-ltb c 65536 l)

-- One character.

encode_character : (c : ℕ) → scalar c ≡ true → Character (encode c)
encode_character c s =
    let k : (c < 55296) ⊎ ((57344 ≤ c) × (c < 1114112)) = scalar_cases c s in
    ⊎_elim
    (λ (h : c < 128). subst Character (sym (encode_ascii c h)) (ascii_character c h))
    (λ (l : 128 ≤ c). ⊎_elim
    (λ (h : c < 2048). subst Character (sym (encode_two c l h)) (two_character (192 + c / 64) (next c) (omega arith)))
    (λ (l : 2048 ≤ c). ⊎_elim
    (λ (h : c < 65536). subst Character (sym (encode_three c l h)) (three_character (224 + c / 4096) (next (c / 64)) (next c) (omega arith)))
    (λ (l : 65536 ≤ c). subst Character (sym (encode_four c l)) (four_character (240 + c / 262144) (next (c / 4096)) (next (c / 64)) (next c) (omega arith)))
    (cases_lt c 65536)) (cases_lt c 2048)) (cases_lt c 128)

encoded : (c : ℕ) (bs : List ℕ) → scalar c ≡ true → encode c ≡ bs → IsUtf8 bs
encoded c bs s e = subst IsUtf8 e (IsUtf8-encode c s)

is_scalar : (c : ℕ) → (c < 55296) ⊎ ((57344 ≤ c) × (c < 1114112)) → scalar c ≡ true
is_scalar c h = grind (arith, nat_tests)

next_is : (b high x : ℕ) → (128 ≤ b) × (b ≤ 191) → x ≡ high * 64 + (b - 128) → next x ≡ b
next_is b high x h e = omega arith

two_text : (a b : ℕ) → Two a b → IsUtf8 (a ∷ b ∷ [])
two_text a b h =
    let c : ℕ = (a - 192) * 64 + (b - 128) in
    let first : 192 + c / 64 ≡ a = omega arith in
    let second : next c ≡ b = next_is b (a - 192) c h.second refl in
    encoded c (a ∷ b ∷ []) (is_scalar c (inl (omega arith))) (encode_two c (omega arith) (omega arith) ∙ cc)

three_text : (a b d : ℕ) → Three a b d → IsUtf8 (a ∷ b ∷ d ∷ [])
three_text a b d h =
    let c : ℕ = ((a - 224) * 64 + (b - 128)) * 64 + (d - 128) in
    let first : 224 + c / 4096 ≡ a = omega arith in
    let second : next (c / 64) ≡ b = next_is b (a - 224) (c / 64) h.second (omega arith) in
    let third : next c ≡ d = next_is d ((a - 224) * 64 + (b - 128)) c h.third refl in
    let beyond : 55296 ≤ c → 238 ≤ a = λ k. let other : a ≢ 237 = λ e. omega (arith, h.no_surrogate e) in omega arith in
    let s : (c < 55296) ⊎ ((57344 ≤ c) × (c < 1114112)) = ⊎_elim (λ (k : c < 55296). inl k) (λ (k : 55296 ≤ c). inr (omega (arith, beyond k))) (cases_lt c 55296) in
    encoded c (a ∷ b ∷ d ∷ []) (is_scalar c s) (encode_three c (omega arith) (omega arith) ∙ cc)

four_text : (a b d e : ℕ) → Four a b d e → IsUtf8 (a ∷ b ∷ d ∷ e ∷ [])
four_text a b d e h =
    let high : ℕ = (a - 240) * 64 + (b - 128) in
    let c : ℕ = (high * 64 + (d - 128)) * 64 + (e - 128) in
    let first : 240 + c / 262144 ≡ a = omega arith in
    let second : next (c / 4096) ≡ b = next_is b (a - 240) (c / 4096) h.second (omega arith) in
    let third : next (c / 64) ≡ d = next_is d high (c / 64) h.third (omega arith) in
    let fourth : next c ≡ e = next_is e (high * 64 + (d - 128)) c h.fourth refl in
    encoded c (a ∷ b ∷ d ∷ e ∷ []) (is_scalar c (inr (omega arith))) (encode_four c (omega arith) ∙ cc)

character_text : (bs : List ℕ) → Character bs → IsUtf8 bs
character_text [] h = IsUtf8-nil
character_text (a ∷ []) h = let s : a < 128 = one_from a h in encoded a (a ∷ []) (is_scalar a (inl (omega arith))) (encode_ascii a s)
character_text (a ∷ b ∷ []) h = two_text a b (two_from a b h)
character_text (a ∷ b ∷ d ∷ []) h = three_text a b d (three_from a b d h)
character_text (a ∷ b ∷ d ∷ e ∷ []) h = four_text a b d e (four_from a b d e h)
character_text (a ∷ b ∷ d ∷ e ∷ f ∷ bs) h = let l = character_length (a ∷ b ∷ d ∷ e ∷ f ∷ bs) h in absurd (omega arith)

-- Whole texts.

joined_text : (cs : List (List ℕ)) → AllByRecursion Character cs → IsUtf8 (flat_map (λ c. c) cs)
joined_text [] h = IsUtf8-nil
joined_text (c ∷ cs) h = text-append c (flat_map (λ c. c) cs) (character_text c h.0) (joined_text cs h.1)

utf8_encodes : (cs : List ℕ) → scalars cs ≡ true → utf8 (encodes cs) ≡ true
unfolding utf8
utf8_encodes [] h = refl
utf8_encodes (c ∷ cs) h =
    let p = and_parts (scalar c) (scalars cs) h in
    utf8_append (encode c) (encodes cs) (utf8_character (encode c) (encode_character c p.0)) (utf8_encodes cs p.1)

pub utf8_text : (bs : List ℕ) → Decides (utf8 bs) (IsUtf8 bs)
utf8_text bs = (
  λ h. let f = (utf8_characters bs).0 h in subst IsUtf8 f.2 (joined_text f.0 f.1),
  λ u. subst (λ (l : List ℕ). utf8 l ≡ true) u.1.1 (utf8_encodes u.0 u.1.0),
)
