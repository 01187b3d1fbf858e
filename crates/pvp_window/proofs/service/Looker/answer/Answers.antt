use Rattle.pvp_window.proofs.service.Looker.answer.Goals as goal

pub returns-in-Console : goal.returns-in-Console
returns-in-Console for c = rw c.in-Console.is c.send_page.ensures

pub returns-in-Windows : goal.returns-in-Windows
returns-in-Windows for c = rw c.in-Windows.is c.send_windows.ensures

pub returns-in-Missing : goal.returns-in-Missing
returns-in-Missing for c = rw c.in-Missing.is c.refuse.ensures

pub returns-in-Wrong : goal.returns-in-Wrong
returns-in-Wrong for c = rw c.in-Wrong.is c.refuse-in-Wrong.ensures
