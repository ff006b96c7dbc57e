use Rattle.words.specs.Lists.{words_left}
use Rattle.words.specs.Reading.{read}
use Rattle.words.proofs.Compared.{eq_by_rest}
use Rattle.words.proofs.known.same_words.Goals as goal

pub returns : goal.returns
returns g c = let s = g.W.WordSet in eq_by_rest (words_left (read s.words s.spelled)) g.W.PartialEq.eq _ _ _ c.eq.ensures.ran
