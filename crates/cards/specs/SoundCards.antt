-- What the check of a card answers.
use Rattle.std.specs.Prelude.{◌≡◌, Some, None, Ok, Err, Option, Result}
use Rattle.records.specs.declared.card.Card.{Card}
use Rattle.cards.specs.declared.sound_card.SoundCard.{SoundCard}

-- this card, where there is no denial; else exactly this denial
abbrev pub Checked : {D : Type 0} → Option D → Card → Result SoundCard D → Type 0
Checked denial card (Ok sound) = (denial ≡ None) × (sound.card ≡ card)
Checked denial card (Err d) = denial ≡ Some d
