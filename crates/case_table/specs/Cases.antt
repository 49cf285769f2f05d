-- How the line of a case is laid out.
use Rattle.std.specs.Prelude.{◌≡◌, ◌≢◌, ℕ, ◌<◌, List, ◌++◌, length, codes}
use Rattle.std.specs.Str.Pattern.{LacksTextAt}

-- a text has no such mark
abbrev pub Lacks : (mark text : List ℕ) → Type 0
Lacks mark text = (front back : List ℕ) → text ≢ front ++ (mark ++ back)

-- a text has a mark between front and back, and no such mark begins before that one
pub record IsCut (mark text front back : List ℕ) : Type 0 where
  pub whole : text ≡ front ++ (mark ++ back)
  pub first : (i : ℕ) → i < length front → LacksTextAt mark text i

-- what ends the name of a case: a colon and a space
abbrev pub colon : List ℕ
colon = codes ": "

-- what parts its input from its output: an arrow between spaces
abbrev pub arrow : List ℕ
arrow = codes " => "

-- a line is a case: its name up to the first colon, its input up to the first arrow after that, its output
pub record IsCase (line input output : List ℕ) : Type 0 where
  pub name : List ℕ
  pub case : List ℕ
  pub named : IsCut colon line name case
  pub parted : IsCut arrow case input output

-- no name, input and output make the line
abbrev pub IsNoCase : List ℕ → Type 0
IsNoCase line = (name input output : List ℕ) → line ≢ name ++ (colon ++ (input ++ (arrow ++ output)))
