use Rattle.std.proofs.Common.{◌≡◌, true, List, [], ◌∷◌, ◌++◌, length, take, sym, refl, ap, ◌∙◌, subst, arith, rules}
use Rattle.std.proofs.lemmas.Bool.{and_from}
use Rattle.std.proofs.lemmas.List.{take_more_set, take-take}
use Rattle.records.specs.declared.level.Level.{Level}
use Rattle.frames.specs.Lists.{fit_append}
use Rattle.frames.specs.Levels.{all_fit}
use Rattle.frames.proofs.Standing.{fit_take}
use Rattle.frames.proofs.storeys.Storeys.put.Goals as goal

pub returns : goal.returns
returns c =
    let s = c.args.self.now in
    let k : length s.records ≡ 8 = search rules in
    take_more_set s.records c.args.kept c.args.level (omega (arith, c.requires.within))
    ∙ ap (λ (ys : List Level). ys ++ c.args.level ∷ []) (sym (take-take c.args.kept s.count s.records c.requires.there))

pub invariant_of-self-clause-fit : goal.invariant_of-self-clause-fit
invariant_of-self-clause-fit c =
    let s = c.args.self.now in
    let k : length s.records ≡ 8 = search rules in
    let kept : all_fit (take c.args.kept s.records) ≡ true =
    subst (λ (ls : List Level). all_fit ls ≡ true) (take-take c.args.kept s.count s.records c.requires.there) (fit_take (take s.count s.records) c.args.kept s.fit) in
    subst (λ (ls : List Level). all_fit ls ≡ true) (sym (take_more_set s.records c.args.kept c.args.level (omega (arith, k, c.requires.within))))
    (fit_append (take c.args.kept s.records) (c.args.level ∷ []) kept (and_from _ true c.requires.fits refl))
