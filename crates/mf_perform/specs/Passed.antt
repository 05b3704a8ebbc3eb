-- Which checks of a call passed: this model's own.
use Rattle.std.specs.Prelude.{◌-◌, List, take}
use Rattle.mf_plan.specs.declared.reply.Reply.{Reply}
use Rattle.mf_plan.specs.declared.reply.Reply.TheVariants as reply

-- The checks of a call that passed, by its reply: those before the one that was denied, and all where none was. They count also where
-- the call was denied later, or refused by the framework.
abbrev pub passed : {A : Type 0} → Reply → List A → List A
passed (reply.Denied errno op item by) checks = take (item - 1) checks
passed other checks = checks
