mod Confirming
