-- A script that lines are added to.
use Rattle.std.proofs.Common.{◌≡◌, List, [], ◌∷◌, ◌++◌, map, vec_items, sym, ap, ◌∙◌, subst, append_assoc, append-nil}
use Rattle.call_lines.specs.Asked.{Asked, Entry, asked}
use Rattle.transcript.specs.declared.script.Script.{Script}
use Rattle.transcript.specs.declared.script.Turn.{Turn}
use Rattle.transcript.specs.Scripts.{asked_calls, turns, turn_of, asked_by, Adds}

-- the script says the same with these lines added to it, as another with those
pub record SaysAs (s : Script) (es : List Entry) (t : Script) (fs : List Entry) : Type 0 where
  pub calls : map asked (vec_items s.calls) ++ asked_calls es ≡ map asked (vec_items t.calls) ++ asked_calls fs
  pub turns : vec_items s.turns ++ turns es ≡ vec_items t.turns ++ turns fs

-- one line is added that was still to be
pub one_added : (s t u : Script) (e : Entry) (es fs : List Entry) → SaysAs s (e ∷ es) t fs → Adds s u (e ∷ []) → SaysAs u es t fs
one_added s t u e es fs same more =
    record {
      calls =
          ap (λ (cs : List Asked). cs ++ asked_calls es) more.calls
          ∙ append_assoc (map asked (vec_items s.calls)) (asked_calls (e ∷ [])) (asked_calls es)
          ∙ ap (λ (cs : List Asked). map asked (vec_items s.calls) ++ (cs ++ asked_calls es)) (append-nil (asked_by e))
          ∙ same.calls;
      turns = ap (λ (ts : List Turn). ts ++ turns es) more.turns ∙ append_assoc (vec_items s.turns) (turn_of e ∷ []) (turns es) ∙ same.turns;
    }

-- all lines are added
pub all_added : (s t : Script) (fs : List Entry) → SaysAs s [] t fs → Adds t s fs
all_added s t fs same = record { calls = sym (append-nil (map asked (vec_items s.calls))) ∙ same.calls; turns = sym (append-nil (vec_items s.turns)) ∙ same.turns }

-- at the start all lines are still to be added
pub none_added : (s : Script) (es fs : List Entry) → es ≡ fs → SaysAs s es s fs
none_added s es fs e =
    record { calls = ap (λ (xs : List Entry). map asked (vec_items s.calls) ++ asked_calls xs) e; turns = ap (λ (xs : List Entry). vec_items s.turns ++ turns xs) e }

-- the same with the lines that are left told otherwise
pub left_as : (s t : Script) (es xs fs : List Entry) → es ≡ xs → SaysAs s es t fs → SaysAs s xs t fs
left_as s t es xs fs e same = subst (λ (ys : List Entry). SaysAs s ys t fs) e same
