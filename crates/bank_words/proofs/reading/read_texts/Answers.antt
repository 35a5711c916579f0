use Rattle.std.proofs.Common.{sym, ◌∙◌, map}
use Rattle.clap.specs.Matches.{found_of}
use Rattle.bank_words.proofs.Commands.{unread_words, all_map, refused, told}
use Rattle.bank_words.proofs.reading.read_texts.Goals as goal

pub returns-then-not-are_plain : goal.returns-then-not-are_plain
returns-then-not-are_plain c = unread_words (map (λ w. w.now) c.args.words.now) (all_map c.args.words.now ∙ sym c.are_plain.ensures ∙ c.if-not-are_plain.true)

pub returns-in-Err : goal.returns-in-Err
returns-in-Err c = rw c.fault_of.ensures
    (refused (map (λ w. w.now) c.args.words.now) _ _
    (all_map c.args.words.now ∙ sym c.are_plain.ensures ∙ c.if-not-are_plain.false) c.in_ok-command.ensures
    c.in-Err.ensures.kinds)

pub returns-in-Some-command_of : goal.returns-in-Some-command_of
returns-in-Some-command_of c =
    let read = told (map (λ w. w.now) c.args.words.now) _ c.in-Ok.matches c.in-Some.name.now
    (found_of c.in-Some.inner.now)
    (all_map c.args.words.now ∙ sym c.are_plain.ensures ∙ c.if-not-are_plain.false) c.in_ok-command.ensures
    c.in-Ok.ensures.kinds c.in-Ok.ensures.matches (sym c.in-Some.ensures.name) (sym c.in-Some.ensures.rows)
    in
    sym read ∙ sym c.command_of.ensures ∙ c.in-Some-command_of.is

pub returns-in-Some : goal.returns-in-Some
returns-in-Some c =
    let read = told (map (λ w. w.now) c.args.words.now) _ c.in-Ok.matches c.in-Some.name.now
    (found_of c.in-Some.inner.now)
    (all_map c.args.words.now ∙ sym c.are_plain.ensures ∙ c.if-not-are_plain.false) c.in_ok-command.ensures
    c.in-Ok.ensures.kinds c.in-Ok.ensures.matches (sym c.in-Some.ensures.name) (sym c.in-Some.ensures.rows)
    in
    sym read ∙ sym c.command_of.ensures ∙ c.in-None-command_of.is
