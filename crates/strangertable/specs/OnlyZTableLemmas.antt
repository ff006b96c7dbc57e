-- The laws of a table of one option. Assumes nothing.
use Rattle.std.specs.Prelude.{◌==◌, refl}
use Rattle.std.proofs.Common.{ap, subst, ◌∙◌, arith}
use Rattle.std.proofs.lemmas.Option.{cond_some}
use Rattle.std.proofs.lemmas.Bool.{cond-false, ne_eqb}
use Rattle.flags.specs.Codes.{about}
use Rattle.flags.specs.declared.kinds.Code.TheVariants.{Of}
use Rattle.flags.specs.declared.kinds.Kind.{Kind}
use Rattle.flags.specs.declared.kinds.Kind.TheVariants as kind
use Rattle.tables.specs.Tables.{AtHome, Given, Lawful, by_letter, by_name}
use Rattle.strangertable.specs.Only.{only_z}

at_home : (k : Kind) → Given only_z k → AtHome only_z k
at_home k (by_letter b c e m) = subst (AtHome only_z) (ap (λ x. (about x).makes) (cond_some (b == 90) (Of kind.Z) c e).1 ∙ m) refl
at_home k (by_name n c e m) = absurd (cc)

pub only_z_lawful : Lawful only_z
only_z_lawful = record {
  letters = λ b high. cond-false _ _ _ (ne_eqb b 90 (λ e. absurd (omega arith)));
  names = λ n not'. refl;
  homes = at_home;
}
