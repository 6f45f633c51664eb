-- The code's refusals and answers, with the document's number and values for each of their cases.
use Rattle.std.specs.Prelude.{Result, Ok, Err}
use Rattle.reply.specs.Reply.{Numbered, numbered, replied, of_refusal}
use Rattle.reply.specs.declared.Refusal.{Refusal}
use Rattle.reply.specs.declared.Refusal.TheVariants.{Length, Sequence, Number, Place, Count, Mark, NotOneHeld, Oversize, ZeroSum, TooManyDonors, Start, Output, Words, Form, Lift, Uncounted, Next}
use Rattle.reply.specs.declared.Done.{Done}
use Rattle.reply.specs.declared.Reply.{Reply}

-- the document's number and place of each refusal; its sentence is quoted where it is tested
abbrev pub refusal_of : Refusal → Numbered
refusal_of (Length place) = numbered 1 place
refusal_of (Sequence place) = numbered 2 place
refusal_of (Number place) = numbered 3 place
refusal_of (Place place) = numbered 4 place
refusal_of (Count place) = numbered 5 place
refusal_of (Mark place) = numbered 6 place
refusal_of (NotOneHeld place) = numbered 7 place
refusal_of (Oversize place) = numbered 8 place
refusal_of (ZeroSum place) = numbered 9 place
refusal_of (TooManyDonors place) = numbered 10 place
refusal_of (Start place) = numbered 11 place
refusal_of (Output place) = numbered 12 place
refusal_of (Words place) = numbered 13 place
refusal_of (Form place) = numbered 14 place
refusal_of (Lift place) = numbered 15 place
refusal_of (Uncounted place) = numbered 16 place
refusal_of (Next place) = numbered 17 place

-- the reply that a call's answer stands for
abbrev pub reply_of : Result Done Refusal → Reply
reply_of (Err x) = of_refusal (refusal_of x)
reply_of (Ok done) = replied done.many done.words

-- the reply of a refusal, or else what follows
abbrev pub refused_or : {A : Type 0} → Result A Refusal → Reply → Reply
refused_or (Err x) otherwise = of_refusal (refusal_of x)
refused_or (Ok a) otherwise = otherwise
