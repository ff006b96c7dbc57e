-- Codes and their numbers. Assumes nothing.
use Rattle.std.proofs.Common.{◌≡◌, ℕ, zero, suc, ◌+◌, Bool, true, ◌&&◌, eqb, List, [], ◌∷◌, length, Option, Some, None, Bor, sym, refl, ap, ◌∙◌, arith}
use Rattle.std.specs.List.{slice_get}
use Rattle.std.specs.Option.{option_copied}
use Rattle.std.specs.Slice.{IsItemAt}
use Rattle.std.proofs.lemmas.Bool.{and_parts, eqb-true}
use Rattle.std.proofs.lemmas.Option.{slice_get_past, slice_get_read}
use Rattle.flags.specs.Codes.{about, all_codes, code_of, TellsCode}
use Rattle.flags.specs.declared.kinds.Code.{Code}
use Rattle.flags.specs.declared.kinds.Code.TheVariants.{Of, Debuginfo, Optimize}
use Rattle.flags.specs.declared.kinds.Kind.TheVariants as kind

-- each code's number is its place, counted from n
abbrev placed : ℕ → List Code → Bool
placed n [] = true
placed n (c ∷ cs) = eqb (about c).number n && placed (n + 1) cs

number_at : (n : ℕ) (cs : List Code) (i : ℕ) (c : Code) → placed n cs ≡ true → slice_get cs i ≡ Some c → (about c).number ≡ n + i
number_at n [] i c p e = absurd cc
number_at n (d ∷ cs) zero c p e =
    let same : d ≡ c = cc in
    let at = eqb-true (about d).number n (and_parts _ _ p).0 in
    sym (ap (λ k. (about k).number) same) ∙ at ∙ omega arith
number_at n (d ∷ cs) (suc i) c p e = let rest : (about c).number ≡ n + 1 + i = number_at (n + 1) cs i c (and_parts (eqb (about d).number n) (placed (n + 1) cs) p).1 e in omega arith

found : (c : Code) → code_of (about c).number ≡ Some c
found (Of kind.Help) = refl
found (Of kind.Cfg) = refl
found (Of kind.LibrarySearchPath) = refl
found (Of kind.Link) = refl
found (Of kind.CrateType) = refl
found (Of kind.CrateName) = refl
found (Of kind.Edition) = refl
found (Of kind.Emit) = refl
found (Of kind.Print) = refl
found (Of kind.Out) = refl
found (Of kind.OutDir) = refl
found (Of kind.Explain) = refl
found (Of kind.Test) = refl
found (Of kind.Target) = refl
found (Of kind.Allow) = refl
found (Of kind.Warn) = refl
found (Of kind.ForceWarn) = refl
found (Of kind.Deny) = refl
found (Of kind.Forbid) = refl
found (Of kind.CapLints) = refl
found (Of kind.Codegen) = refl
found (Of kind.Version) = refl
found (Of kind.Verbose) = refl
found (Of kind.Extern) = refl
found (Of kind.ExternLocation) = refl
found (Of kind.Sysroot) = refl
found (Of kind.Z) = refl
found (Of kind.ErrorFormat) = refl
found (Of kind.Json) = refl
found (Of kind.Color) = refl
found (Of kind.RemapPathPrefix) = refl
found Debuginfo = refl
found Optimize = refl

pub tells_code : (n : ℕ) → TellsCode n
tells_code n = record {
  there = λ c e. ap code_of (sym e) ∙ found c;
  back = λ c e. number_at 0 all_codes n c refl e ∙ omega arith;
}

-- what `get` and `copied` read of a list
got : {X : Type 0} (xs : List X) (i : ℕ) (o : Option (Bor X)) → IsItemAt xs i o → option_copied o ≡ slice_get xs i
got xs i None h = sym (slice_get_past xs i (search))
got xs i (Some x) h = sym (slice_get_read xs (length xs) i x.now refl (search) (search))

pub coded : (i : ℕ) (o : Option (Bor Code)) (f : Option Code) → f ≡ option_copied o → IsItemAt all_codes i o → f ≡ code_of i
coded i o f e at = e ∙ got all_codes i o at
